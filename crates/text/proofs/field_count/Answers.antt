-- `field_count` meets its contract: what `split` gives are the pieces, as many as `count` says.
use Rattle.std.proofs.Common.{rules, tests, eqb}
use Rattle.std.proofs.lemmas.Iterator.Consumers.{count_from_yields_List}
use Rattle.std.proofs.lemmas.Iterator.Splits.{YieldsList-from_slice_split}
use Rattle.text.specs.Pieces.{space}
use Rattle.text.proofs.PieceLaws.{pieces_split}
use Rattle.text.proofs.field_count.Goals as goal

pub returns : goal.returns
returns c =
    rw (pieces_split space c.args.line.now)
    (count_from_yields_List _ _ c.count.ensures.ran
    (YieldsList-from_slice_split _ (λ x. eqb x space) c.args.line.now c.split.ensures.rest c.split.ensures.done c.split.ensures.closure (λ x b q k. search (rules, tests))))
