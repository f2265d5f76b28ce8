-- `sorghemi_layout` meets its contract: what is at the place, and 0 past the list's end.
use Rattle.std.proofs.Common.{◌≡◌, ℕ, List, Bor, get_or, ◌∙◌, arith}
use Rattle.std.specs.Prelude.{Option, unwrap_or}
use Rattle.std.specs.Option.{option_copied}
use Rattle.std.specs.Slice.{IsItemAt}
use Rattle.sorghemi.specs.Layout.{layout}
use Rattle.sorghemi.proofs.layout.sorghemi_layout.Goals as goal

looked_up : (xs : List ℕ) (i : ℕ) (r : Option (Bor ℕ)) → IsItemAt xs i r → unwrap_or (option_copied r) 0 ≡ get_or xs i 0
looked_up xs i r h = h.4 (omega arith) 0

pub returns : goal.returns
returns c = c.unwrap_or.ensures ∙ rw c.copied.ensures (looked_up layout c.args.place c.get.result c.get.ensures.lookup)
