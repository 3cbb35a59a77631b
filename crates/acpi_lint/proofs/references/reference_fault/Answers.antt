use Rattle.acpi_lint.proofs.references.reference_fault.Goals as goal

pub returns-in-DanglingParent : goal.returns-in-DanglingParent
returns-in-DanglingParent c = rw c.in-DanglingParent.is c.dangling_link.ensures

pub returns-in-DanglingResource : goal.returns-in-DanglingResource
returns-in-DanglingResource c = rw c.in-DanglingResource.is c.dangling_resource.ensures

pub returns-in-DanglingCache : goal.returns-in-DanglingCache
returns-in-DanglingCache c = rw c.in-DanglingCache.is c.dangling_link-in-DanglingCache.ensures
