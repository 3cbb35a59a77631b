use Rattle.std.proofs.Common.{◌≡◌, ◌+◌, ◌-◌, ◌%◌, ◌++◌, List, ℕ, length, ◌∙◌, sym, ap}
use Rattle.acpi_base.specs.Header.{header_with, header_bytes}
use Rattle.acpi_write.specs.Encoded.{checksum_of}
use Rattle.acpi_write.specs.Views.{head_value}
use Rattle.acpi_write.proofs.TablesWritten.Sums.{encoded, closing_of}
use Rattle.acpi_write.proofs.encode.with_header.Goals as goal

pub returns-clause-bytes : goal.returns-clause-bytes
unfolding header_bytes
returns-clause-bytes c =
    let head = head_value c.args.head.now in
    let body = c.args.body.now in
    let opened : c.write.new.out ≡ header_bytes (header_with c.args.signature (36 + length body) 0 head) =
    c.write.ensures.bytes in
    let front = c.sum.ensures in
    let back = c.sum-2.ensures in
    let closed : (0 + (256 - (c.sum.result + c.sum-2.result) % 256)) % 256 ≡ checksum_of (c.write.new.out ++ body) =
    (λ i. (0 + (256 - (front i + back i) % 256)) % 256) ∙ sym (closing_of c.write.new.out body) in
    let items : c.extend_from_slice.new.self.items ≡ c.write-2.new.out ++ body =
    c.in_ok-extend_from_slice.ensures.items ∙ ap (λ (xs : List ℕ). xs ++ body) c.in_ok-bytes.ensures.items in
    encoded c.args.signature head body c.write.new.out c.write-2.new.out c.extend_from_slice.new.self.items _ opened
    closed c.write-2.ensures.bytes items
