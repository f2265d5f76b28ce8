-- The lines after a given one, as the second pass over a plan meets them.
use Rattle.std.specs.Prelude.{ℕ, zero, suc, ◌-◌, ◌<◌, List, [], ◌∷◌, ◌≡◌, refl, length, drop}
use Rattle.std.proofs.Common.{sub-one, arith}
use Rattle.text.specs.Pieces.{pieces}
use Rattle.text.proofs.PieceLaws.{some_piece}
use Rattle.engine.specs.declared.Batch.{Batch}
use Rattle.stepping.specs.Stepping.{steps_text, batch_after_lines}
use Rattle.answer.specs.Output.{parts_text}

-- The lines after the first k. The last piece, behind the last line feed, always stays, so that there is a place for it.
unfoldable pub lines_after : ℕ → List (List ℕ) → List (List ℕ)
lines_after zero lines = lines
lines_after (suc k) [] = []
lines_after (suc k) (rest ∷ []) = rest ∷ []
lines_after (suc k) (line ∷ next ∷ more) = lines_after k (next ∷ more)

-- As a loop over the lines meets them.

pub after_none : (lines : List (List ℕ)) → lines_after 0 lines ≡ lines
unfolding lines_after
after_none lines = refl

pub after_last_piece : (k : ℕ) (rest : List ℕ) → lines_after k (rest ∷ []) ≡ rest ∷ []
unfolding lines_after
after_last_piece zero rest = refl
after_last_piece (suc k) rest = refl

pub after_line : (k : ℕ) (line : List ℕ) (separator : ℕ) (bytes : List ℕ) → 0 < k
    → lines_after k (line ∷ pieces separator bytes) ≡ lines_after (k - 1) (pieces separator bytes)
unfolding lines_after
after_line zero line separator bytes h = absurd (omega arith)
after_line (suc k) line separator bytes h = rw sub-one (go (pieces separator bytes) (some_piece separator bytes))
  where
    go : (rest : List (List ℕ)) → 0 < length rest → lines_after (suc k) (line ∷ rest) ≡ lines_after k rest
    go [] h = absurd (omega arith)
    go (next ∷ more) h = refl

-- For the steps it makes no difference whether the last piece stays: it is no step line.

same_text : (b : Batch) (k : ℕ) (lines : List (List ℕ)) → steps_text b (lines_after k lines) ≡ steps_text b (drop k lines)
unfolding lines_after steps_text
same_text b zero lines = refl
same_text b (suc k) [] = refl
same_text b (suc zero) (rest ∷ []) = refl
same_text b (suc (suc k)) (rest ∷ []) = refl
same_text b (suc k) (line ∷ next ∷ more) = same_text b k (next ∷ more)

same_batch : (b : Batch) (k : ℕ) (lines : List (List ℕ))
    → batch_after_lines b (lines_after k lines) ≡ batch_after_lines b (drop k lines)
unfolding lines_after batch_after_lines
same_batch b zero lines = refl
same_batch b (suc k) [] = refl
same_batch b (suc zero) (rest ∷ []) = refl
same_batch b (suc (suc k)) (rest ∷ []) = refl
same_batch b (suc k) (line ∷ next ∷ more) = same_batch b k (next ∷ more)

pub same_parts : (b : Batch) (k : ℕ) (lines : List (List ℕ)) → parts_text b (lines_after k lines) ≡ parts_text b (drop k lines)
unfolding parts_text
same_parts b k lines = rw (same_text b k lines, same_batch b k lines)
