-- The numbers of processors: their proximity domains, and the leaves that name them.
pub mod DomainsFaults
pub mod DomainsPass
pub mod EntryNumbers
pub mod LeavesFaults
pub mod NamedPass
pub mod Searches
