-- The rank that the pass tells of a job is that of the step which the rules allow on it, of the three that the chooser names.
use Rattle.std.specs.Prelude.{ℕ, ◌<◌, Bool, true, false, cond, not, ◌&&◌, ◌||◌, List, [], ◌∷◌, ◌≡◌, refl, eqb, get_or}
use Rattle.std.proofs.Common.{sym}
use borrow.Author.Tests.{lt-leb}
use Rattle.laws.specs.SearchLaws.{if-or}
use Rattle.laws.specs.Refusal.{Refusal, when, first_of}
use Rattle.rules.specs.Snapshot.{Snapshot, never_started, is_out, is_stored, is_live}
use Rattle.rules.specs.Speculation.{is_ready, handed_stale, is_valid, is_invalid, source_missing}
use Rattle.rules.specs.Call.{start_own, start_speculation, commit}
use Rattle.rules.specs.Refusals.{step_tests, refusal_of}
use Rattle.cellset.specs.Survey.{Columns, is_open, may_speculate, judged_rank, final_rank, rank_at}
use Rattle.cellset.specs.SurveyLaws.{Tells, ready_told, missing_told}

-- The rank of the first of the steps 4, 0 and 1 that is allowed, and on a job by the rules.
abbrev pub first_rank : Bool → Bool → Bool → ℕ
first_rank commits starts guesses = cond commits 3 (cond starts 2 (cond guesses 1 0))

abbrev pub allowed_rank : Snapshot → ℕ → ℕ
allowed_rank s j =
    first_rank (eqb (refusal_of s (commit j)) 0) (eqb (refusal_of s (start_own j)) 0) (eqb (refusal_of s (start_speculation j)) 0)

-- Of an open job, by what may be done with it: the rank told, judged where that is due, is that of the first step allowed.
told_open : (ready idle out stored stale guesses : Bool)
    → final_rank (cond ready (cond (out || stored) 4 (cond idle 2 0)) (cond guesses 1 0)) (cond stale (cond idle 2 0) (cond stored 3 0))
    ≡ first_rank (ready && (stored && not ((out || stored) && stale)))
    (ready && (not (stored && not ((out || stored) && stale)) && (idle && not ((out || stored) && not ((out || stored) && stale)))))
    (not ready && guesses)
told_open true true true true true guesses = refl
told_open true true true true false guesses = refl
told_open true true true false true guesses = refl
told_open true true true false false guesses = refl
told_open true true false true true guesses = refl
told_open true true false true false guesses = refl
told_open true true false false true guesses = refl
told_open true true false false false guesses = refl
told_open true false true true true guesses = refl
told_open true false true true false guesses = refl
told_open true false true false true guesses = refl
told_open true false true false false guesses = refl
told_open true false false true true guesses = refl
told_open true false false true false guesses = refl
told_open true false false false true guesses = refl
told_open true false false false false guesses = refl
told_open false idle out stored stale true = refl
told_open false idle out stored stale false = refl

-- The rules' tests of an open job come to the same. The pass takes a value for stale only where there is a guess.

commit_tests : (ready out stored stale : Bool)
    → (ready && (stored && not ((out || stored) && stale)))
    ≡ eqb (first_of (when (not stored) 13 ∷ when (not ready) 15 ∷ when ((ready && (out || stored)) && stale) 18 ∷ [])) 0
unfolding first_of
commit_tests true true true true = refl
commit_tests true true true false = refl
commit_tests true false true true = refl
commit_tests true false true false = refl
commit_tests true out false stale = refl
commit_tests false out true stale = refl
commit_tests false out false stale = refl

own_tests : (ready idle out stored stale : Bool)
    → (ready && (not (stored && not ((out || stored) && stale)) && (idle && not ((out || stored) && not ((out || stored) && stale)))))
    ≡ eqb (first_of (when (not idle) 13 ∷ when (not ready) 15 ∷ when ((ready && (out || stored)) && not stale) 17 ∷ [])) 0
unfolding first_of
own_tests true true true true true = refl
own_tests true true true true false = refl
own_tests true true true false true = refl
own_tests true true true false false = refl
own_tests true true false true true = refl
own_tests true true false true false = refl
own_tests true true false false stale = refl
own_tests true false true true true = refl
own_tests true false true true false = refl
own_tests true false true false stale = refl
own_tests true false false true true = refl
own_tests true false false true false = refl
own_tests true false false false stale = refl
own_tests false true out stored stale = refl
own_tests false false out stored stale = refl

guess_tests : (ready on idle never missing : Bool)
    → (not ready && (on && (idle && (never && not missing))))
    ≡ eqb (first_of (when (not on) 12 ∷ when (not idle || not never) 13 ∷ when ready 14 ∷ when missing 15 ∷ [])) 0
unfolding first_of
guess_tests true true true true missing = refl
guess_tests true true true false missing = refl
guess_tests true true false never missing = refl
guess_tests true false idle never missing = refl
guess_tests false true true true true = refl
guess_tests false true true true false = refl
guess_tests false true true false missing = refl
guess_tests false true false never missing = refl
guess_tests false false idle never missing = refl

-- A settled job is refused with 13, or with 12 before that.

settled_first : (rest : List Refusal) → false ≡ eqb (first_of (when true 13 ∷ rest)) 0
unfolding first_of
settled_first rest = refl

settled_second : (on : Bool) (rest : List Refusal) → false ≡ eqb (first_of (when (not on) 12 ∷ when true 13 ∷ rest)) 0
unfolding first_of
settled_second true rest = refl
settled_second false rest = refl

module _ (s : Snapshot) (of : Columns) (tells : Tells s of) (sealed : s.sealed ≡ true) (j : ℕ) (held : j < s.job_count) where
  -- The first tests of every step pass, and the others decide.
  held_then : (rest : List Refusal) → first_of (step_tests s j rest) ≡ first_of rest
  unfolding first_of
  held_then rest = rw (sealed, lt-leb s.job_count j held)

  -- What the rules allow on an open job, by the tests that the pass makes.

  commit_open : is_open of j ≡ true
      → eqb (refusal_of s (commit j)) 0 ≡ (is_ready s j && (is_stored (s.phase j) && not (is_live (s.phase j) && handed_stale s j)))
  unfolding refusal_of is_invalid
  commit_open e =
      rw (held_then _, tells.settled j, e)
      (sym (commit_tests (is_ready s j) (is_out (s.phase j)) (is_stored (s.phase j)) (handed_stale s j)))

  own_open : is_open of j ≡ true
      → eqb (refusal_of s (start_own j)) 0
      ≡ (is_ready s j
      && (not (is_stored (s.phase j) && not (is_live (s.phase j) && handed_stale s j))
      && (eqb (get_or of.running j 0) 0 && not (is_live (s.phase j) && not (is_live (s.phase j) && handed_stale s j)))))
  unfolding refusal_of is_valid
  own_open e =
      rw (held_then _, tells.settled j, tells.running j, e)
      (sym
      (own_tests (is_ready s j) (eqb (get_or of.running j 0) 0) (is_out (s.phase j)) (is_stored (s.phase j)) (handed_stale s j)))

  guess_open : is_open of j ≡ true
      → eqb (refusal_of s (start_speculation j)) 0
      ≡ (not (is_ready s j) && may_speculate s.speculating (get_or of.running j 0) (s.phase j) (source_missing s j))
  unfolding refusal_of
  guess_open e =
      rw (held_then _, tells.settled j, tells.running j, e)
      (sym
      (guess_tests (is_ready s j) s.speculating (eqb (get_or of.running j 0) 0) (never_started (s.phase j)) (source_missing s j)))

  -- On a settled job none of the three is allowed.

  commit_settled : is_open of j ≡ false → eqb (refusal_of s (commit j)) 0 ≡ false
  unfolding refusal_of
  commit_settled e = rw (held_then _, tells.settled j, e) (sym (settled_first _))

  own_settled : is_open of j ≡ false → eqb (refusal_of s (start_own j)) 0 ≡ false
  unfolding refusal_of
  own_settled e = rw (held_then _, tells.settled j, e) (sym (settled_first _))

  guess_settled : is_open of j ≡ false → eqb (refusal_of s (start_speculation j)) 0 ≡ false
  unfolding refusal_of
  guess_settled e = rw (held_then _, tells.settled j, e) (sym (settled_second s.speculating _))

  pub none_settled : is_open of j ≡ false → allowed_rank s j ≡ 0
  none_settled e = rw (commit_settled e, own_settled e, guess_settled e)

  pub told_rank : final_rank (rank_at of s.speculating j) (judged_rank (get_or of.running j 0) (s.phase j) (handed_stale s j))
      ≡ allowed_rank s j
  told_rank =
      if-or (is_open of j)
      (λ e.
      rw (e, ready_told s of tells j held e, missing_told s of tells j held e, ← tells.phases j, commit_open e, own_open e, guess_open e)
      (told_open (is_ready s j) (eqb (get_or of.running j 0) 0) (is_out (s.phase j)) (is_stored (s.phase j)) (handed_stale s j)
      (may_speculate s.speculating (get_or of.running j 0) (s.phase j) (source_missing s j))))
      (λ e. rw e (sym (none_settled e)))
