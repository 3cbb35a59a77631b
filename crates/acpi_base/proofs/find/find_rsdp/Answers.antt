use Rattle.std.proofs.Common.{arith, ◌∙◌, sym}
use Rattle.std.proofs.lemmas.Bool.{true≢false}
use Rattle.acpi_base.proofs.RsdpSearch.{rest_of_run, none_further}
use Rattle.acpi_base.proofs.find.find_rsdp.Goals as goal

pub loop-address-preserved : goal.loop-address-preserved
loop-address-preserved c =
    let m = c.args.image.now in
    let next = c.in_ok-next.next in
    let bytes = c.in_ok-next.bytes.now in
    let searched = c.in_ok-next.ensures.0 in
    let run = c.in_ok-next.ensures.2 in (
      omega (arith, searched.least),
      omega (arith, searched.most),
      omega (arith, searched.aligned),
      none_further m c.loop-address.address next searched.aligned c.loop-address.invariant.3 c.in_ok-next.ensures.3
          (λ looks. true≢false (sym ((c.looks_like_rsdp.ensures m next run).1 looks) ∙ c.if-looks_like_rsdp.false)),
      rw c.split_at.ensures.back (rest_of_run m next bytes c.min.result c.min.ensures run),
    )
