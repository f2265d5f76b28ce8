-- `Cells::with` meets its contract: a cell with a bit, by the tests that led there.
use Rattle.std.proofs.Common.{lt-ltb}
use Rattle.jobset.specs.Bits.{with_shifted}
use Rattle.cellset.proofs.Cells.with.Goals as goal

pub returns : goal.returns
returns c =
    let words = c.args.self in
    let cell = c.args.access.cell in
    let inside = c.if-access-ge64.false in
    rw (
      lt-ltb _ _ inside,
      c.with_if.ensures,
      c.with_if-2.ensures,
      c.with_if-3.ensures,
      c.counts_as-sure_write.ensures,
      with_shifted words.named cell inside,
      with_shifted words.written cell inside,
      with_shifted words.sure cell inside,
      with_shifted words.back cell inside,
    )
