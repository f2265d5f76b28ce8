-- R77: the kept share, in whole thousandths rounded down, or absent where no guess was started.
use Rattle.std.specs.Prelude.{ℕ, ◌*◌, ◌/◌, cond, eqb, Option, None, Some}
use Rattle.tally.specs.declared.Tally.{Tally}

unfoldable pub kept_share : Tally → Option ℕ
kept_share tally = cond (eqb tally.started 0) None (Some (tally.kept * 1000 / tally.started))
