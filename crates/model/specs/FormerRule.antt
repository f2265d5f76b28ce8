-- The rule by which guesses fell before their values were compared with the cells (R185), and what holds of the guesses
-- that it lets stand. Nothing that demand 3 claims needs it.
use Rattle.std.specs.Prelude.{ℕ, suc, ◌≤◌, ◌<◌, ◌≡◌, true}
use Rattle.std.proofs.Math.Option.{some}
use Rattle.model.specs.State.{names, may_write, writes, maybe, is_marked, Origin, discarded, origin_of, report_at}
use Rattle.model.specs.State.{State, before, Committed, Open, Ready, Right, Invariant}
use Rattle.model.specs.StateLaws.{write_then_name, writes_may}

-- A job that the guess looked past is settled with mark 1, or a guess that it took from is thrown away; or it was handed a
-- prediction, which the former rule did not know. That rule also felled a guess when one that it took from had fallen; the
-- clause is needed nowhere, so more is shown than R185 says.
pub data Lost (s : State) : ℕ → Type 0 where
  bypassed_wrote : {j i : ℕ} {origin : Origin}
      → origin_of (s.speculation j) ≡ some origin
      → origin.bypassed i ≡ true
      → is_marked (s.progress i) ≡ true
      → Lost s j
  source_discarded : {j w x : ℕ} {origin : Origin}
      → origin_of (s.speculation j) ≡ some origin
      → origin.source x ≡ some w
      → s.speculation w ≡ discarded
      → Lost s j
  told_beforehand : {j : ℕ} {origin : Origin}
      → origin_of (s.speculation j) ≡ some origin
      → origin.predicted ≡ true
      → Lost s j

-- From job `first` on, each open job before j that may write cell x is a maybe-writer of it and was looked past. It
-- is kept for each cell, since a job may surely write one cell and maybe-write another.
abbrev pub Bypass : State → ℕ → ℕ → Origin → ℕ → Type 0
Bypass s j x origin first =
    (i : ℕ) → first ≤ i → i < j → may_write (s.uses i x) ≡ true → Open s i
    → (s.uses i x ≡ maybe) × (origin.bypassed i ≡ true)

-- Where the value that job j's guess was handed at cell x stands now. Forwarded: it is the stored report of an open
-- writer w, and what may write between w and j was looked past. Present: it is what the jobs before j left, and what
-- may still write before j was looked past. When w is settled by its guess, the first becomes the second.
pub data Source (s : State) (j x : ℕ) (origin : Origin) : Type 0 where
  forwarded : (w : ℕ)
      → origin.source x ≡ some w
      → w < j
      → s.uses w x ≡ writes
      → report_at (s.speculation w) x ≡ some (origin.handed x)
      → Open s w
      → Bypass s j x origin (suc w)
      → Source s j x origin
  present : origin.handed x ≡ before s j x → Bypass s j x origin 0 → Source s j x origin

-- Every value of an open job's guess has a source, unless the guess is lost.
abbrev pub Sourced : State → Type 0
Sourced s =
    (j : ℕ) (origin : Origin) → origin_of (s.speculation j) ≡ some origin → Open s j → ¬ Lost s j
    → (x : ℕ) → names (s.uses j x) ≡ true → Source s j x origin

-- A ready job's guess that is not lost was handed what the jobs before it left.
pub sourced_is_right : (s : State) → Sourced s → (j : ℕ) (origin : Origin)
    → origin_of (s.speculation j) ≡ some origin → Open s j → Ready s j → ¬ Lost s j → Right s j origin.handed
sourced_is_right s sourced j origin e o ready valid x n = cases (sourced j origin e o valid x n)
  where
    cases : Source s j x origin → origin.handed x ≡ before s j x
    cases (present right bypass) = right
    -- a writer that is open still: then the job is not ready
    cases (forwarded w from l a report unsettled bypass) =
        let settled : Committed s w = ready w x l (write_then_name _ _ (writes_may a) n) in cc

-- What goes from step to step: the invariant, and beside it the sources of what the former rule lets stand.
pub record Carried (s : State) : Type 0 where
  pub right : Invariant s
  pub sourced : Sourced s
