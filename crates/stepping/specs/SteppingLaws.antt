-- The step lines as a loop over the lines meets them, and how long their answers are.
use Rattle.std.specs.Prelude.{ℕ, ◌*◌, ◌<◌, ◌≤◌, Bool, true, false, cond, ◌&&◌, List, [], ◌∷◌, ◌++◌, ◌≡◌, refl, eqb, ltb, ℤ, length}
use Rattle.std.proofs.Common.{arith, length-append, ltb-true}
use Rattle.laws.specs.SearchLaws.{and_left, and_right}
use Rattle.laws.specs.Refusal.{Refusal, when, first_of}
use Rattle.rules.specs.Refusals.{start_own_tests, start_speculation_tests, report_own_tests, report_speculation_tests, commit_tests}
use Rattle.engine.specs.Form.{in_form}
use Rattle.engine.specs.Record.{snapshot_of}
use Rattle.engine.specs.Opening.{refusal_on}
use Rattle.engine.specs.Steps.{started_own, started_speculation, reported_own, reported_speculation, committed_by}
use Rattle.engine.specs.ByNumber.{without_values, no_such_step, stepped}
use Rattle.engine.specs.declared.Batch.{Batch}
use Rattle.text.specs.Pieces.{line_feed, pieces}
use Rattle.text.proofs.PieceLaws.{some_piece}
use Rattle.steplines.specs.StepLines.{step_tried}
use Rattle.steplines.specs.StepLaws.{step_small}
use Rattle.render.specs.Length.{decimal_length, pair_takes}
use Rattle.stepping.specs.Stepping.{performed, line_done, answer_line, steps_text, batch_after_lines}

-- A line before others is tried.

pub text_next : (b : Batch) (line : List ℕ) (separator : ℕ) (bytes : List ℕ)
    → steps_text b (line ∷ pieces separator bytes) ≡ answer_line b line ++ steps_text (line_done b line).batch (pieces separator bytes)
unfolding steps_text
text_next b line separator bytes = go (pieces separator bytes) (some_piece separator bytes)
  where
    go : (rest : List (List ℕ)) → 0 < length rest
        → steps_text b (line ∷ rest) ≡ answer_line b line ++ steps_text (line_done b line).batch rest
    go [] h = absurd (omega arith)
    go (next ∷ more) h = refl

pub after_next : (b : Batch) (line : List ℕ) (separator : ℕ) (bytes : List ℕ)
    → batch_after_lines b (line ∷ pieces separator bytes) ≡ batch_after_lines (line_done b line).batch (pieces separator bytes)
unfolding batch_after_lines
after_next b line separator bytes = go (pieces separator bytes) (some_piece separator bytes)
  where
    go : (rest : List (List ℕ)) → 0 < length rest
        → batch_after_lines b (line ∷ rest) ≡ batch_after_lines (line_done b line).batch rest
    go [] h = absurd (omega arith)
    go (next ∷ more) h = refl

-- What is behind the last line feed is not.

pub text_last : (b : Batch) (rest : List ℕ) → steps_text b (rest ∷ []) ≡ []
unfolding steps_text
text_last b rest = refl

pub after_last : (b : Batch) (rest : List ℕ) → batch_after_lines b (rest ∷ []) ≡ b
unfolding batch_after_lines
after_last b rest = refl

-- A refusal is below 100: by the numbers of the tests, of a call with such tests, and of each step.

abbrev below100 : List Refusal → Bool
below100 [] = true
below100 (when test number ∷ rest) = ltb number 100 && below100 rest

first_small : (tests : List Refusal) → below100 tests ≡ true → first_of tests < 100
unfolding first_of
first_small [] e = omega arith
first_small (when true number ∷ rest) e = ltb-true number 100 (and_left (ltb number 100) (below100 rest) e)
first_small (when false number ∷ rest) e = first_small rest (and_right (ltb number 100) (below100 rest) e)

on_small : (b : Batch) (tests : List Refusal) → below100 tests ≡ true → refusal_on b tests < 100
on_small b tests e = go (in_form b)
  where
    go : (t : Bool) → cond t (first_of tests) 32 < 100
    go true = first_small tests e
    go false = omega arith

refusal_small : (b : Batch) (number j : ℕ) (values : List ℤ) (wrote : ℕ) → (stepped b number j values wrote).refusal < 100
unfolding stepped started_own started_speculation reported_own reported_speculation committed_by
refusal_small b number j values wrote =
    go (eqb number 0) (eqb number 1) (eqb number 2) (eqb number 3) (eqb number 4)
  where
    none : (t : Bool) → cond t 21 32 < 100
    none true = omega arith
    none false = omega arith

    go : (t₀ t₁ t₂ t₃ t₄ : Bool)
        → (cond t₀ (started_own b j)
        (cond t₁ (started_speculation b j)
        (cond t₂ (without_values (reported_own b j values wrote))
        (cond t₃ (without_values (reported_speculation b j values wrote))
        (cond t₄ (without_values (committed_by b j)) (no_such_step b)))))
        ).refusal < 100
    go true t₁ t₂ t₃ t₄ = on_small b (start_own_tests (snapshot_of b) j) refl
    go false true t₂ t₃ t₄ = on_small b (start_speculation_tests (snapshot_of b) j) refl
    go false false true t₃ t₄ = on_small b (report_own_tests (snapshot_of b) j wrote) refl
    go false false false true t₄ = on_small b (report_speculation_tests (snapshot_of b) j wrote) refl
    go false false false false true = on_small b (commit_tests (snapshot_of b) j) refl
    go false false false false false = none (in_form b)

-- So an answer's line takes at most 5 bytes: a digit, a space, two digits and the line feed.
answer_length : (b : Batch) (line : List ℕ) → length (answer_line b line) ≤ 5
unfolding performed
answer_length b line =
    let step = (step_tried line).step in
    let refusal = (line_done b line).refusal in
    let few : refusal < 100 = refusal_small b step _ _ _ in
    omega (
      arith,
      pair_takes step refusal,
      decimal_length 0 step (omega (arith, step_small line)),
      decimal_length 1 refusal (omega (arith, few)),
    )

-- And the answers take at most 5 for each line.
pub steps_length : (b : Batch) (lines : List (List ℕ)) → length (steps_text b lines) ≤ 5 * length lines
unfolding steps_text
steps_length b [] = omega arith
steps_length b (rest ∷ []) = omega arith
steps_length b (line ∷ next ∷ more) =
    rw (length-append (answer_line b line) (steps_text (line_done b line).batch (next ∷ more)))
    (omega (arith, answer_length b line, steps_length (line_done b line).batch (next ∷ more)))

-- No bytes are one empty piece, which is no line.
pub no_lines : pieces line_feed [] ≡ [] ∷ []
unfolding pieces
no_lines = refl
