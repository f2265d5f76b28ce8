-- R77: the kept share as a host in another language sees it. An exported function cannot answer with an enum.
use Rattle.std.specs.Prelude.{ℕ, true, false, Option, None, Some}
use Rattle.sorghemi.specs.declared.ShareAnswer.{ShareAnswer}

unfoldable pub shown_share : Option ℕ → ShareAnswer
shown_share (Some n) = record { present = true; thousandths = n }
shown_share None = record { present = false; thousandths = 0 }
