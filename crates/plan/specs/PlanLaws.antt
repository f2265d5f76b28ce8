-- Laws of the reading.
use Rattle.std.specs.Prelude.{ℕ, ◌+◌, ◌<◌, true, List, [], ◌∷◌, ◌≡◌, refl, length}
use Rattle.std.proofs.Common.{arith}
use Rattle.std.specs.Option.{is_some}
use Rattle.text.specs.Pieces.{pieces}
use Rattle.text.proofs.PieceLaws.{some_piece}
use Rattle.plan.specs.declared.Reading.{Reading}
use Rattle.plan.specs.Plan.{line_read, ended, lines_read}

-- A line with pieces after it is read before them.
pub read_next : (r : Reading) (n : ℕ) (line : List ℕ) (separator : ℕ) (bytes : List ℕ)
    → lines_read r n (line ∷ pieces separator bytes) ≡ lines_read (line_read r line n) (n + 1) (pieces separator bytes)
unfolding lines_read
read_next r n line separator bytes = go (pieces separator bytes) (some_piece separator bytes)
  where
    go : (others : List (List ℕ)) → 0 < length others
        → lines_read r n (line ∷ others) ≡ lines_read (line_read r line n) (n + 1) others
    go [] h = absurd (omega arith)
    go (next ∷ others) h = refl

-- R150: a fault stays as it is, whatever lines follow.
pub fault_stays : (r : Reading) (n : ℕ) (lines : List (List ℕ)) → is_some r.fault ≡ true → lines_read r n lines ≡ r
unfolding lines_read line_read ended
fault_stays r n [] h = refl
fault_stays r n (rest ∷ []) h = rw h
fault_stays r n (line ∷ next ∷ others) h = rw h (fault_stays r (n + 1) (next ∷ others) h)
