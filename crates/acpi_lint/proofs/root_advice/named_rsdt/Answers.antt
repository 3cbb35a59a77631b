use Rattle.std.proofs.Common.{rules, ◌≡◌, ◌∙◌, Some, true}
use Rattle.acpi_base.specs.Memory.{bytes_at}
use Rattle.acpi_base.specs.Number.{field}
use Rattle.acpi_base.specs.Signature.{has_signature, rsdt_signature}
use Rattle.acpi_lint.proofs.RootTables.{rsdt_there}
use Rattle.acpi_lint.proofs.root_advice.named_rsdt.Goals as goal

pub returns : goal.returns
returns c =
    let m = c.args.image.now in
    let bytes = c.in_ok-bytes.bytes.now in
    let header = c.in_ok-header.header.now in
    let address = c.from-address.result in
    let present : bytes_at m c.args.rsdp 36 ≡ Some bytes = search rules in
    let there : bytes_at m address 36 ≡ Some header = search rules in
    let is : address ≡ field bytes 16 4 = c.from-address.ensures ∙ c.u32_at.ensures in
    let signed : has_signature header rsdt_signature ≡ true = search rules in
    rsdt_there m c.args.rsdp bytes header address c.complete.result present is c.if-address-eq0.false there signed
    c.complete.ensures
