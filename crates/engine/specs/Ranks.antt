-- The ranks of a record's jobs, and that the choice goes by the largest of them.
use Prim.Native.Nat.{ℕ, zero, suc, ◌+◌, ◌-◌, ◌<◌, ◌≤◌, max, min}
use native.Mathlib.Omega.{arith}
use Rattle.std.proofs.Math.Numerals.{add-one}
use Rattle.std.specs.Prelude.{Bool, true, false, cond, not, List, ◌≡◌, ltb, length, get_or, set, drop}
use Rattle.std.proofs.Math.Path.{refl}
use Rattle.std.proofs.Common.{sym, ap, ◌∙◌, length-set, get_or-set_same, get_or-set_other, get_or-drop}
use Rattle.std.proofs.Math.Dec.{eqb}
use borrow.Author.Tests.{eqb-true, eqb-false, eq-eqb, ne_eqb, ltb-true, ltb-false, lt-ltb, le-ltb}
use Rattle.laws.specs.Search.{any_below}
use Rattle.laws.specs.SearchLaws.{Found, any_find, any_fails, if-or, clash, or_left, or_right}
use Rattle.laws.specs.Fold.{column}
use Rattle.laws.specs.FoldLaws.{column_at}
use Rattle.passes.specs.Chain.{chain_length_at}
use Rattle.rules.specs.Snapshot.{is_stored, is_live}
use Rattle.rules.specs.Speculation.{handed_stale}
use Rattle.rules.specs.Call.{Call, start_own, start_speculation, commit}
use Rattle.cellset.specs.Survey.{Columns, columns, cells_at, is_open, earlier_than, is_ready_after, misses_source, may_speculate, judged_rank, final_rank, rank_at, Surveyed}
use Rattle.cellset.specs.AllowedLaws.{first_rank, allowed_rank, none_settled, told_rank}
use Rattle.engine.specs.declared.Batch.{Batch}
use Rattle.engine.specs.declared.chooser.Pick.{Pick}
use Rattle.engine.specs.Record.{snapshot_of}
use Rattle.engine.specs.Form.{in_form}
use Rattle.engine.specs.FormLaws.{form_counts}
use Rattle.engine.specs.FormPass.{top_below, top_search}
use Rattle.engine.specs.InvalidRun.{run_stale, live_stale}
use Rattle.engine.specs.Chooser.{allows, pick_below, chain_at, arity_at, pick_for, refused, named, chosen}
use Rattle.engine.specs.ChooserLaws.{pick_best, none_picked, chosen_4, chosen_0, chosen_1, chosen_19}
use Rattle.engine.specs.ChooserPass.{Columned, open_at, columned_tells, pick_same}

-- The rank of a job whose guess is to be judged: by the run that the job holds.
abbrev pub judged_at : Batch → ℕ → ℕ
judged_at b j = judged_rank (get_or b.running j 0) (get_or b.phase j 0) (run_stale b j)

-- A column with the rank of each job, judged already or still to be.
pub record Ranked (b : Batch) (ranks : List ℕ) : Type 0 where
  pub long : length ranks ≡ 128
  pub few : (j : ℕ) → j < b.job_count → get_or ranks j 0 ≤ 4
  pub at : (j : ℕ) → j < b.job_count → final_rank (get_or ranks j 0) (judged_at b j) ≡ allowed_rank (snapshot_of b) j

pub judged_few : (running phase : ℕ) (stale : Bool) → judged_rank running phase stale ≤ 3
judged_few running phase stale = cases stale (eqb running 0) (is_stored phase)
  where
    cases : (stale idle stored : Bool) → cond stale (cond idle 2 0) (cond stored 3 0) ≤ 3
    cases true true stored = omega arith
    cases true false stored = omega arith
    cases false idle true = omega arith
    cases false idle false = omega arith

module _ (b : Batch) where
  -- What is to be judged is live, and so the job's run is its guess's.
  module _ (named written sure back committed running : List ℕ) (on : Bool) (j out : ℕ) where
    abbrev of : Columns
    of = columns named written sure back committed running b.phase

    judged_run : final_rank (rank_at of on j) (judged_rank out (get_or b.phase j 0) (run_stale b j))
        ≡ final_rank (rank_at of on j) (judged_rank out (get_or b.phase j 0) (handed_stale (snapshot_of b) j))
    judged_run =
        if-or (is_live (get_or b.phase j 0))
        (λ live.
        ap (λ (stale : Bool). final_rank (rank_at of on j) (judged_rank out (get_or b.phase j 0) stale)) (rw live at (live_stale b j)))
        (λ dead.
        rw dead
        (cases (is_open of j) (is_ready_after (earlier_than of j) (cells_at of j)) (eqb (get_or running j 0) 0)
        (may_speculate on (get_or running j 0) (get_or b.phase j 0) (misses_source (earlier_than of j) (cells_at of j)))
        (judged_rank out (get_or b.phase j 0) (run_stale b j)) (judged_rank out (get_or b.phase j 0) (handed_stale (snapshot_of b) j))))
      where
        cases : (unsettled ready idle guesses : Bool) (x y : ℕ)
            → final_rank (cond unsettled (cond ready (cond idle 2 0) (cond guesses 1 0)) 0) x
            ≡ final_rank (cond unsettled (cond ready (cond idle 2 0) (cond guesses 1 0)) 0) y
        cases true true true guesses x y = refl
        cases true true false guesses x y = refl
        cases true false idle true x y = refl
        cases true false idle false x y = refl
        cases false ready idle guesses x y = refl

  -- The survey of the record's columns gives such a column.
  pub survey_ranked : in_form b ≡ true → eqb b.sealed 0 ≡ false → (named written sure back arities : List ℕ)
      → Columned b b.job_count named written sure back arities → (ranks : List ℕ)
      → Surveyed (snapshot_of b).speculating (columns named written sure back b.committed b.running b.phase) b.job_count ranks
      → Ranked b ranks
  survey_ranked form closed named written sure back arities all ranks surveyed =
      let of = columns named written sure back b.committed b.running b.phase in
      let tells = columned_tells b form named written sure back arities all in
      record {
        long = surveyed.long;
        few = λ j h.
            rw (surveyed.told j h)
            (ranks_few (is_open of j) (is_ready_after (earlier_than of j) (cells_at of j)) (is_live (get_or b.phase j 0)) (eqb (get_or b.running j 0) 0)
            (may_speculate (snapshot_of b).speculating (get_or b.running j 0) (get_or b.phase j 0) (misses_source (earlier_than of j) (cells_at of j))));
        at = λ j h.
            ap (λ (rank : ℕ). final_rank rank (judged_at b j)) (surveyed.told j h)
            ∙ judged_run named written sure back b.committed b.running (snapshot_of b).speculating j (get_or b.running j 0)
            ∙ told_rank (snapshot_of b) of tells (ap not closed) j h;
      }
    where
      ranks_few : (unsettled ready live idle guesses : Bool)
          → cond unsettled (cond ready (cond live 4 (cond idle 2 0)) (cond guesses 1 0)) 0 ≤ 4
      ranks_few true true true idle guesses = omega arith
      ranks_few true true false true guesses = omega arith
      ranks_few true true false false guesses = omega arith
      ranks_few true false live idle true = omega arith
      ranks_few true false live idle false = omega arith
      ranks_few false ready live idle guesses = omega arith

  -- A job judged.
  pub judge_ranked : (ranks : List ℕ) (j : ℕ) → j < 128 → get_or ranks j 0 ≡ 4 → {rank : ℕ} → rank ≡ judged_at b j → Ranked b ranks
      → Ranked b (set ranks j rank)
  judge_ranked ranks j h four {rank} e ranked = record {
    long = length-set ranks j rank ∙ ranked.long;
    few = λ i l.
        if-or (eqb i j)
        (λ t.
        rw (eqb-true i j t, get_or-set_same ranks j rank 0 (omega (arith, ranked.long)), e)
        (omega (arith, judged_few (get_or b.running j 0) (get_or b.phase j 0) (run_stale b j))))
        (λ f. rw (get_or-set_other ranks j i rank 0 (eqb-false i j f)) (ranked.few i l));
    at = λ i l.
        if-or (eqb i j)
        (λ t.
        let same = eqb-true i j t in
        let here : get_or (set ranks j rank) j 0 ≡ judged_at b j = get_or-set_same ranks j rank 0 (omega (arith, ranked.long)) ∙ e in
        rw (same, here)
        (settled (get_or b.running j 0) (get_or b.phase j 0) (run_stale b j)
        ∙ rw four at (ranked.at j (rw (← same) l))))
        (λ f.
        ap (λ (r : ℕ). final_rank r (judged_at b i)) (get_or-set_other ranks j i rank 0 (λ q. eqb-false i j f q)) ∙ ranked.at i l);
  }
    where
      -- what is judged needs no judging
      settled : (running phase : ℕ) (stale : Bool)
          → final_rank (judged_rank running phase stale) (judged_rank running phase stale) ≡ judged_rank running phase stale
      settled running phase stale = same (judged_rank running phase stale)
        where
          same : (rank : ℕ) → final_rank rank rank ≡ rank
          same rank = if-or (eqb rank 4) (λ t. rw t) (λ f. rw f)

-- The largest number of a column is no less than any, and one of them.

pub top_reaches : (n : ℕ) (l : List ℕ) (j : ℕ) → j < n → get_or l j 0 ≤ top_below n l
top_reaches n l j h =
    ltb-false (top_below n l) (get_or l j 0)
    (any_fails n j (λ i. ltb (top_below n l) (get_or l i 0)) (sym (top_search (top_below n l) n l) ∙ le-ltb (top_below n l) (top_below n l) (omega arith)) h)

pub top_met : (n : ℕ) (l : List ℕ) → 0 < top_below n l → Found n (λ j. eqb (get_or l j 0) (top_below n l))
top_met n l some =
    let found = any_find n (λ i. ltb (top_below n l - 1) (get_or l i 0)) (sym (top_search (top_below n l - 1) n l) ∙ lt-ltb (top_below n l - 1) (top_below n l) (omega arith)) in
    let reached = ltb-true (top_below n l - 1) (get_or l found.place 0) found.holds in
    record {
      place = found.place;
      below = found.below;
      holds = eq-eqb (get_or l found.place 0) (top_below n l) (omega (arith, reached, top_reaches n l found.place found.below));
    }

pub top_limit : (n k : ℕ) (l : List ℕ) → ((j : ℕ) → j < n → get_or l j 0 ≤ k) → top_below n l ≤ k
top_limit n k l few =
    if-or (ltb k (top_below n l))
    (λ t.
    let above = ltb-true k (top_below n l) t in
    let found = top_met n l (omega (arith, above)) in
    absurd (omega (arith, above, few found.place found.below, eqb-true (get_or l found.place 0) (top_below n l) found.holds)))
    (λ f. ltb-false k (top_below n l) f)

-- The jobs of a rank are those on which a call is allowed.
abbrev Names : Batch → (ℕ → ℕ) → ℕ → (ℕ → Call) → Type 0
Names b rank number call = (j : ℕ) → j < b.job_count → eqb (rank j) number ≡ allows (snapshot_of b) (call j)

module _ (b : Batch) (rank : ℕ → ℕ) (number : ℕ) (call : ℕ → Call) (names : Names b rank number call) where
  unseen : ((j : ℕ) → j < b.job_count → eqb (rank j) number ≡ false) → eqb (pick_for b call).chain 0 ≡ true
  unseen none =
      eq-eqb (pick_for b call).chain 0
      (none_picked b.job_count (λ j. allows (snapshot_of b) (call j)) (chain_at b) (arity_at b) (λ j h. sym (names j h) ∙ none j h))

  seen_picked : Found b.job_count (λ j. eqb (rank j) number) → eqb (pick_for b call).chain 0 ≡ false
  seen_picked found =
      let best = pick_best b.job_count (λ j. allows (snapshot_of b) (call j)) (chain_at b) (arity_at b) in
      ne_eqb (pick_for b call).chain 0
      (λ q. absurd (omega (arith, q, best.longest found.place found.below (sym (names found.place found.below) ∙ found.holds))))

  told_pick : pick_below b.job_count (λ j. eqb (rank j) number) (chain_at b) (arity_at b) ≡ pick_for b call
  told_pick =
      pick_same b.job_count (λ j. eqb (rank j) number) (λ j. allows (snapshot_of b) (call j)) (chain_at b) (chain_at b) (arity_at b) (arity_at b)
      names (λ j h t. refl) (λ j h t. refl)

-- The number of the step with a rank.
abbrev pub step_of : ℕ → ℕ
step_of rank = cond (eqb rank 3) 4 (cond (eqb rank 2) 0 1)

module _ (b : Batch) (form : in_form b ≡ true) (closed : eqb b.sealed 0 ≡ false) (ranks : List ℕ) (ranked : Ranked b ranks)
    (top : ℕ) (is-top : top ≡ top_below b.job_count ranks) (judged : top ≤ 3) where
  abbrev n : ℕ
  n = b.job_count

  abbrev rank : ℕ → ℕ
  rank j = get_or ranks j 0

  low : (j : ℕ) → j < n → rank j ≤ top
  low j h = omega (arith, is-top, top_reaches n ranks j h)

  pub rank_is : (j : ℕ) → j < n → rank j ≡ allowed_rank (snapshot_of b) j
  rank_is j h =
      sym (ap (λ (t : Bool). cond t (judged_at b j) (rank j)) (ne_eqb (rank j) 4 (λ q. absurd (omega (arith, q, low j h, judged))))) ∙ ranked.at j h

  other : (k : ℕ) → top < k → (j : ℕ) → j < n → eqb (rank j) k ≡ false
  other k above j h = ne_eqb (rank j) k (λ q. absurd (omega (arith, q, low j h, above)))

  met : 0 < top → Found n (λ j. eqb (rank j) top)
  met some = rw is-top (top_met n ranks (omega (arith, is-top, some)))

  commits : Names b rank 3 commit
  commits j h = ap (λ (r : ℕ). eqb r 3) (rank_is j h) ∙ three (allows (snapshot_of b) (commit j)) (allows (snapshot_of b) (start_own j)) (allows (snapshot_of b) (start_speculation j))
    where
      three : (c s g : Bool) → eqb (first_rank c s g) 3 ≡ c
      three true s g = refl
      three false true g = refl
      three false false true = refl
      three false false false = refl

  no_commit : top ≤ 2 → (j : ℕ) → j < n → allows (snapshot_of b) (commit j) ≡ false
  no_commit few j h = sym (commits j h) ∙ other 3 (omega arith) j h

  starts : top ≤ 2 → Names b rank 2 start_own
  starts few j h =
      ap (λ (r : ℕ). eqb r 2) (rank_is j h) ∙ rw (no_commit few j h) (two (allows (snapshot_of b) (start_own j)) (allows (snapshot_of b) (start_speculation j)))
    where
      two : (s g : Bool) → eqb (first_rank false s g) 2 ≡ s
      two true g = refl
      two false true = refl
      two false false = refl

  no_start : top ≤ 1 → (j : ℕ) → j < n → allows (snapshot_of b) (start_own j) ≡ false
  no_start few j h = sym (starts (omega arith) j h) ∙ other 2 (omega arith) j h

  guesses : top ≤ 1 → Names b rank 1 start_speculation
  guesses few j h =
      ap (λ (r : ℕ). eqb r 1) (rank_is j h) ∙ rw (no_commit (omega arith) j h, no_start few j h) (one (allows (snapshot_of b) (start_speculation j)))
    where
      one : (g : Bool) → eqb (first_rank false false g) 1 ≡ g
      one true = refl
      one false = refl

  -- Nothing is allowed.
  pub choice_none : top ≡ 0 → refused 19 ≡ chosen b
  choice_none e =
      chosen_19 b form closed (pick_for b commit) refl (unseen b rank 3 commit commits (other 3 (omega arith)))
      (pick_for b start_own) refl (unseen b rank 2 start_own (starts (omega arith)) (other 2 (omega arith)))
      (pick_for b start_speculation) refl (unseen b rank 1 start_speculation (guesses (omega arith)) (other 1 (omega arith)))

  -- The step of the largest rank, on the job picked among those of that rank.
  abbrev pub top_pick : Pick
  top_pick = pick_below n (λ j. eqb (rank j) top) (chain_at b) (arity_at b)

  pub choice_top : 0 < top → named (step_of top) top_pick ≡ chosen b
  choice_top some =
      if-or (eqb top 3)
      (λ t.
      let e = eqb-true top 3 t in
      rw e
      (ap (named 4) (told_pick b rank 3 commit commits)
      ∙ chosen_4 b form closed (pick_for b commit) refl (seen_picked b rank 3 commit commits (rw e at (met some)))))
      (λ f.
      if-or (eqb top 2)
      (λ t.
      let e = eqb-true top 2 t in
      rw e
      (ap (named 0) (told_pick b rank 2 start_own (starts (omega arith)))
      ∙ chosen_0 b form closed (pick_for b commit) refl (unseen b rank 3 commit commits (other 3 (omega arith)))
      (pick_for b start_own) refl (seen_picked b rank 2 start_own (starts (omega arith)) (rw e at (met some)))))
      (λ g.
      let e : top ≡ 1 = omega (arith, eqb-false top 3 f, eqb-false top 2 g, judged, some) in
      rw e
      (ap (named 1) (told_pick b rank 1 start_speculation (guesses (omega arith)))
      ∙ chosen_1 b form closed (pick_for b commit) refl (unseen b rank 3 commit commits (other 3 (omega arith)))
      (pick_for b start_own) refl (unseen b rank 2 start_own (starts (omega arith)) (other 2 (omega arith)))
      (pick_for b start_speculation) refl (seen_picked b rank 1 start_speculation (guesses (omega arith)) (rw e at (met some))))))

-- The lowest and the highest of the places below n at which a column holds k; 255 and 0 where there is none.

unfoldable pub lowest_below : ℕ → ℕ → List ℕ → ℕ
lowest_below zero k l = 255
lowest_below (suc n) k l = min (cond (eqb (get_or l n 0) k) n 255) (lowest_below n k l)

unfoldable pub highest_below : ℕ → ℕ → List ℕ → ℕ
highest_below zero k l = 0
highest_below (suc n) k l = max (cond (eqb (get_or l n 0) k) n 0) (highest_below n k l)

module _ (k : ℕ) (l : List ℕ) where
  pub lowest_none : lowest_below 0 k l ≡ 255
  unfolding lowest_below
  lowest_none = refl

  pub lowest_more : (n : ℕ) → min (cond (eqb (get_or l n 0) k) n 255) (lowest_below n k l) ≡ lowest_below (n + 1) k l
  unfolding lowest_below
  lowest_more n = rw add-one

  pub highest_none : highest_below 0 k l ≡ 0
  unfolding highest_below
  highest_none = refl

  pub highest_more : (n : ℕ) → max (cond (eqb (get_or l n 0) k) n 0) (highest_below n k l) ≡ highest_below (n + 1) k l
  unfolding highest_below
  highest_more n = rw add-one

  pub lowest_le : (n j : ℕ) → j < n → eqb (get_or l j 0) k ≡ true → lowest_below n k l ≤ j
  unfolding lowest_below
  lowest_le zero j h e = absurd (omega arith)
  lowest_le (suc n) j h e =
      if-or (eqb j n)
      (λ t. let same = eqb-true j n t in rw (rw same at e) (omega (arith, same)))
      (λ f. omega (arith, lowest_le n j (omega (arith, eqb-false j n f)) e))

  pub highest_ge : (n j : ℕ) → j < n → eqb (get_or l j 0) k ≡ true → j ≤ highest_below n k l
  unfolding highest_below
  highest_ge zero j h e = absurd (omega arith)
  highest_ge (suc n) j h e =
      if-or (eqb j n)
      (λ t. let same = eqb-true j n t in rw (rw same at e) (omega (arith, same)))
      (λ f. omega (arith, highest_ge n j (omega (arith, eqb-false j n f)) e))

  -- Where there is none, nothing is lower than 255; where there is one, the lowest is one.

  no_lower : (n : ℕ) → any_below n (λ i. eqb (get_or l i 0) k) ≡ false → 255 ≤ lowest_below n k l
  unfolding lowest_below any_below
  no_lower zero f = omega arith
  no_lower (suc n) f =
      rw (or_left (eqb (get_or l n 0) k) (any_below n (λ i. eqb (get_or l i 0) k)) f)
      (omega (arith, no_lower n (or_right (eqb (get_or l n 0) k) (any_below n (λ i. eqb (get_or l i 0) k)) f)))

  pub lowest_met : (n j : ℕ) → j < n → n ≤ 128 → eqb (get_or l j 0) k ≡ true → eqb (get_or l (lowest_below n k l) 0) k ≡ true
  unfolding lowest_below
  lowest_met zero j h small e = absurd (omega arith)
  lowest_met (suc n) j h small e =
      if-or (any_below n (λ i. eqb (get_or l i 0) k))
      (λ t.
      let found = any_find n (λ i. eqb (get_or l i 0) k) t in
      let before = lowest_le n found.place found.below found.holds in
      let last : min (cond (eqb (get_or l n 0) k) n 255) (lowest_below n k l) ≡ lowest_below n k l =
      if-or (eqb (get_or l n 0) k)
      (λ u. rw u (omega (arith, before, found.below)))
      (λ f. rw f (omega (arith, before, found.below, small))) in
      rw last (lowest_met n found.place found.below (omega arith) found.holds))
      (λ f.
      let same : j ≡ n =
      if-or (eqb j n) (λ t. eqb-true j n t) (λ g. clash e (any_fails n j (λ i. eqb (get_or l i 0) k) f (omega (arith, eqb-false j n g)))) in
      let here = rw same at e in
      let last : min (cond (eqb (get_or l n 0) k) n 255) (lowest_below n k l) ≡ n =
      rw here (omega (arith, small, no_lower n f)) in
      rw last here)

-- Which job of the largest rank is picked: where there is but one it needs no chains, and else those of the jobs from it on.
module _ (b : Batch) (form : in_form b ≡ true) (closed : eqb b.sealed 0 ≡ false) (named written sure back arities : List ℕ)
    (all : Columned b b.job_count named written sure back arities) (ranks : List ℕ) (ranked : Ranked b ranks)
    (top : ℕ) (is-top : top ≡ top_below b.job_count ranks) (judged : top ≤ 3) (some : 0 < top) where
  abbrev pub tops : ℕ → Bool
  tops j = eqb (get_or ranks j 0) top

  abbrev pub best : Pick
  best = top_pick b form closed ranks ranked top is-top judged

  -- A job of that rank is not committed.
  top_open : (j : ℕ) → j < b.job_count → tops j ≡ true → open_at b j ≡ true
  top_open j h t =
      if-or (open_at b j) (λ e. e)
      (λ e.
      let of = columns named written sure back b.committed b.running b.phase in
      let none = none_settled (snapshot_of b) of (columned_tells b form named written sure back arities all) (ap not closed) j h e in
      absurd (omega (arith, some, eqb-true (get_or ranks j 0) top t, rank_is b form closed ranks ranked top is-top judged j h, none)))

  -- Chains from the first such job on, or from an earlier one, are enough.
  module _ (from : ℕ) (early : from ≤ lowest_below b.job_count top ranks) (chains : List ℕ)
      (e : drop from chains ≡ drop from (column 128 b.job_count (chain_length_at b.jobs b.job_count) 0)) where
    top_chain : (j : ℕ) → j < b.job_count → tops j ≡ true → get_or chains j 0 ≡ chain_at b j
    top_chain j h t =
        let place : from + (j - from) ≡ j = omega (arith, early, lowest_le top ranks b.job_count j h t) in
        rw place at
        (sym (get_or-drop from chains (j - from) 0)
        ∙ ap (λ (rest : List ℕ). get_or rest (j - from) 0) e
        ∙ get_or-drop from (column 128 b.job_count (chain_length_at b.jobs b.job_count) 0) (j - from) 0)
        ∙ column_at 128 b.job_count j (chain_length_at b.jobs b.job_count) 0 0 h (omega (arith, (form_counts b form).few_jobs))

    pub pick_is : pick_below b.job_count tops (λ j. get_or chains j 0) (λ j. get_or arities j 0) ≡ best
    pick_is =
        pick_same b.job_count tops tops (λ j. get_or chains j 0) (chain_at b) (λ j. get_or arities j 0) (arity_at b)
        (λ j h. refl) top_chain (λ j h t. all.counts.at j h (top_open j h t))

  top_found : Found b.job_count tops
  top_found = rw is-top (top_met b.job_count ranks (omega (arith, is-top, some)))

  -- The job picked has the rank, and so has the lowest.
  pub best_in : (best.job < b.job_count) × (tops best.job ≡ true)
  best_in =
      let picked = pick_best b.job_count tops (chain_at b) (arity_at b) in
      let long = picked.longest top_found.place top_found.below top_found.holds in
      let own = picked.own (omega (arith, long)) in
      (own.0, own.1)

  pub lowest_in : (lowest_below b.job_count top ranks < b.job_count) × (tops (lowest_below b.job_count top ranks) ≡ true)
  lowest_in = (
    omega (arith, top_found.below, lowest_le top ranks b.job_count top_found.place top_found.below top_found.holds),
    lowest_met top ranks b.job_count top_found.place top_found.below (form_counts b form).few_jobs top_found.holds,
  )

  -- But one.
  pub sole_is : highest_below b.job_count top ranks ≤ lowest_below b.job_count top ranks → lowest_below b.job_count top ranks ≡ best.job
  sole_is one =
      omega (
        arith,
        one,
        lowest_le top ranks b.job_count best.job best_in.0 best_in.1,
        highest_ge top ranks b.job_count best.job best_in.0 best_in.1,
      )
