-- `field` meets its contract: what `split` gives are the pieces, and `nth` takes one of them.
use Rattle.std.proofs.Common.{rules, tests, eqb, refl}
use Rattle.std.proofs.lemmas.Iterator.Consumers.{nth_from_yields_List}
use Rattle.std.proofs.lemmas.Iterator.Splits.{YieldsList-from_slice_split}
use Rattle.text.specs.Pieces.{space}
use Rattle.text.proofs.PieceLaws.{pieces_split, piece_or_none}
use Rattle.text.proofs.field.Goals as goal

pub returns : goal.returns
returns c =
    let found = nth_from_yields_List _ _ _ c.nth.ensures.ran
    (YieldsList-from_slice_split _ (λ x. eqb x space) c.args.line.now c.split.ensures.rest c.split.ensures.done c.split.ensures.closure (λ x b q k. search (rules, tests))) in
    rw (pieces_split space c.args.line.now, c.unwrap_or.ensures) (piece_or_none c.nth.result _ _ c.args.k found refl)
