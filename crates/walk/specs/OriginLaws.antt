-- The walk by words, a job a turn: what is wanted, found and bypassed when it has come to a job.
use Rattle.std.specs.Prelude.{ℕ, zero, suc, ◌+◌, ◌-◌, ◌^◌, ◌<◌, ◌≤◌, Bool, true, false, cond, not, ◌||◌, ◌&&◌, List, [], ◌∷◌, ◌≡◌, refl, eqb, leb, ltb, get_or, replicate}
use Rattle.std.proofs.Common.{arith, add-one, sub-one, sym, ap, ap₂, ◌∙◌, lit<, leb-true, leb-false, le-leb, lt-ltb, le-ltb, eqb-true, eq-eqb}
use Rattle.std.specs.Int.Bits.{bit_and, bit_or}
use Rattle.std.proofs.lemmas.Nat.{and_le_l, or_lt, xor_lt}
use Rattle.std.proofs.lemmas.Bool.{lt-leb, eqb-false}
use Rattle.laws.specs.Search.{any_below}
use Rattle.laws.specs.SearchLaws.{any_same, any_found, any_fails, any_absent, if-or, clash, and_left, and_false, not_true, eqb_comm}
use Rattle.dependence.specs.declared.Job.{Job}
use Rattle.dependence.specs.Job.{is_predicted, counts_as, in_use, access_at, job_at}
use Rattle.dependence.specs.Ready.{is_committed}
use Rattle.dependence.specs.Sort.{may_write_at, may_write_cell}
use Rattle.jobset.specs.declared.JobSet.{JobSet}
use Rattle.jobset.specs.JobSet.{bit, empty_set, with_job, has_job}
use Rattle.jobset.specs.JobSetLaws.{has_empty, has_with, with_words, same_jobs}
use Rattle.jobset.specs.Bits.{bit_zero, bit_and_lem, bit_without, any_bit}
use Rattle.rules.specs.Walk.{access_is, writes, maybe_writes, looks_back, bypass_at}
use Rattle.cellset.specs.Cells.{surely_writes, is_unpredicted, cells_of}
use Rattle.cellset.specs.CellLaws.{word_fits, by_cell, written_bit, sure_bit, back_bit}
use Rattle.cellset.specs.ConflictWords.{Within}
use Rattle.walk.specs.declared.origins.Walk.{Walk}
use Rattle.walk.specs.Sources.{committed_in, source_for, source_in, set_of, bypassed_in, open_writer}
use Rattle.walk.specs.SourceLaws.{source_le, source_passed, source_stops, has_set_of, set_words}
use Rattle.walk.specs.Origins.{origins_of, Plain, AllPlain, wanted_at, is_met, source_or, walk_past, found_by}

-- A number for each of the four places.
abbrev pub four : (ℕ → ℕ) → List ℕ
four f = f 0 ∷ f 1 ∷ f 2 ∷ f 3 ∷ []

four_same : (f g : ℕ → ℕ) → ((i : ℕ) → i < 4 → f i ≡ g i) → four f ≡ four g
four_same f g e = rw (e 0 (omega arith), e 1 (omega arith), e 2 (omega arith), e 3 (omega arith))

-- The source of a place, if it is job i or one after it.
abbrev pub found_at : List Job → List ℕ → ℕ → ℕ → ℕ → ℕ
found_at jobs committed j i place = cond (leb (source_in jobs committed j place) i) 0 (source_in jobs committed j place)

-- The walk from job j when it has come to job i: wanted are the cells looked back for whose source is before job i.
pub record Walked (jobs : List Job) (committed : List ℕ) (j i : ℕ) (walk : Walk) : Type 0 where
  pub fits : walk.wanted < 2 ^ 64
  pub wants : (cell : ℕ) → cell < 64
      → bit walk.wanted cell ≡ (bit (cells_of (job_at jobs j)).back cell && leb (source_for jobs committed cell j) i)
  pub sources : walk.sources ≡ four (found_at jobs committed j i)
  pub words : (walk.bypassed.low < 2 ^ 64) × (walk.bypassed.high < 2 ^ 64)
  pub bypassed : (k : ℕ) → has_job walk.bypassed k ≡ (leb i k && bypassed_in jobs committed j k)

-- A plain job that does not surely write the cell may write it only by an uncertain write.
uncertain_cell : (job : Job) (cell : ℕ) → Plain job → writes job cell ≡ false → may_write_cell cell job ≡ maybe_writes job cell
unfolding may_write_cell
uncertain_cell job cell plain e =
    any_same 4 (may_write_at cell job) (λ i. in_use job i && access_is 2 cell (access_at job i))
    (λ i l.
    rw (eqb_comm cell (access_at job i).cell)
    (cases (in_use job i) (eqb (access_at job i).cell cell) (access_at job i).mode (plain.modes i l)
    (any_fails 4 i (λ i. in_use job i && access_is 1 cell (access_at job i)) e l)))
  where
    cases : (used same : Bool) (mode : ℕ) → (used ≡ true → mode ≤ 3) → (used && (same && eqb (counts_as mode) 1)) ≡ false
        → ((used && same) && not (eqb mode 0)) ≡ (used && (same && eqb (counts_as mode) 2))
    cases false same mode h e = refl
    cases true false mode h e = refl
    cases true true zero h e = refl
    cases true true (suc zero) h e = clash refl e
    cases true true (suc (suc zero)) h e = refl
    cases true true (suc (suc (suc zero))) h e = clash refl e
    cases true true (suc (suc (suc (suc mode)))) h e = absurd (omega (arith, h refl))

module _ (jobs : List Job) (committed : List ℕ) (j : ℕ) where
  -- Job k is not committed and has an access to the cell that counts as the mode.
  abbrev open_at : ℕ → ℕ → ℕ → Bool
  open_at k cell mode = open_writer (job_at jobs k) (get_or committed k 0) cell mode

  abbrev from : ℕ → ℕ
  from cell = source_for jobs committed cell j

  abbrev cell_at : ℕ → ℕ
  cell_at place = (access_at (job_at jobs j) place).cell

  -- Of one cell: how its source goes with job k, that the walk comes to from the job after it.
  module _ (k : ℕ) (earlier : k < j) (cell : ℕ) where
    before_or_at : leb (from cell) k ≡ false → leb (from cell) (suc k) ≡ true → from cell ≡ suc k
    before_or_at f t = omega (arith, leb-false (from cell) k f, leb-true (from cell) (suc k) t)

    not_before : leb (from cell) k ≡ true → open_at k cell 1 ≡ false
    not_before t = source_passed (λ i. job_at jobs i) (λ i. committed_in committed i) cell j k (leb-true (from cell) k t) earlier

    at_source : from cell ≡ suc k → open_at k cell 1 ≡ true
    at_source e = source_stops (λ i. job_at jobs i) (λ i. committed_in committed i) cell j k e

    still_wanted : (leb (from cell) (suc k) && not (open_at k cell 1)) ≡ leb (from cell) k
    still_wanted =
        if-or (leb (from cell) k)
        (λ t. rw (t, le-leb (from cell) (suc k) (omega (arith, leb-true (from cell) k t)), not_before t))
        (λ f.
        if-or (leb (from cell) (suc k))
        (λ t. rw (f, t, at_source (before_or_at f t)))
        (λ e. rw (f, e)))

    now_found : cond (leb (from cell) (suc k) && open_at k cell 1) (suc k) (cond (leb (from cell) (suc k)) 0 (from cell))
        ≡ cond (leb (from cell) k) 0 (from cell)
    now_found =
        if-or (leb (from cell) k)
        (λ t. rw (t, le-leb (from cell) (suc k) (omega (arith, leb-true (from cell) k t)), not_before t))
        (λ f.
        if-or (leb (from cell) (suc k))
        (λ t. rw (f, t, at_source (before_or_at f t)) (sym (before_or_at f t)))
        (λ e. rw (f, e)))

  -- The set with job k where it is bypassed, and the one without it where it is not, reaches one job further.
  one_less : (k m : ℕ) (p : ℕ → Bool) → ((p k && eqb m k) || (leb (suc k) m && p m)) ≡ (leb k m && p m)
  one_less k m p =
      if-or (eqb m k)
      (λ t. rw (eqb-true m k t, eq-eqb k k refl, le-leb k k (omega arith), lt-leb (suc k) k (omega arith)) (last (p k)))
      (λ f. rw (f, above f) (rest (p k) (leb k m && p m)))
    where
      last : (t : Bool) → ((t && true) || false) ≡ t
      last true = refl
      last false = refl

      rest : (t u : Bool) → ((t && false) || u) ≡ u
      rest true u = refl
      rest false u = refl

      above : eqb m k ≡ false → leb (suc k) m ≡ leb k m
      above f =
          if-or (leb k m)
          (λ s. le-leb (suc k) m (omega (arith, leb-true k m s, eqb-false m k f)) ∙ sym s)
          (λ s. lt-leb (suc k) m (omega (arith, leb-false k m s)) ∙ sym s)

  module _ (within : Within (job_at jobs j)) where
    -- The cell of a place that looks back is among those looked back for, and wanted while its source is before job i.
    place_within : (place : ℕ) → place < 4 → looks_back (job_at jobs j) place ≡ true → cell_at place < 64
    place_within place l t =
        within place l (and_left (in_use (job_at jobs j) place) (not (is_predicted (access_at (job_at jobs j) place).mode)) t)

    place_wants : (i place : ℕ) (walk : Walk) → Walked jobs committed j i walk → place < 4 → looks_back (job_at jobs j) place ≡ true
        → bit walk.wanted (cell_at place) ≡ leb (from (cell_at place)) i
    place_wants i place walk so_far l t =
        let inside = place_within place l t in
        so_far.wants (cell_at place) inside
        ∙ rw
        (back_bit (job_at jobs j) (cell_at place) inside
        ∙ any_found 4 place (λ i. looks_back (job_at jobs j) i && eqb (cell_at place) (cell_at i)) l
        (rw (t, eq-eqb (cell_at place) (cell_at place) refl)))

    -- A job that is no open writer, sure or not, of a cell that is wanted: the walk stays as it is.
    module _ (k : ℕ) (earlier : k < j) (walk : Walk) (so_far : Walked jobs committed j (suc k) walk)
        (quiet : (cell mode : ℕ) → bit walk.wanted cell ≡ true → open_at k cell mode ≡ false) where
      kept_wants : (cell : ℕ) → cell < 64
          → bit walk.wanted cell ≡ (bit (cells_of (job_at jobs j)).back cell && leb (from cell) k)
      kept_wants cell h =
          rw (← still_wanted k earlier cell)
          (cases (bit walk.wanted cell) (bit (cells_of (job_at jobs j)).back cell) (leb (from cell) (suc k)) (open_at k cell 1)
          (so_far.wants cell h) (quiet cell 1))
        where
          cases : (wanted back early written : Bool) → wanted ≡ (back && early) → (wanted ≡ true → written ≡ false)
              → wanted ≡ (back && (early && not written))
          cases true true true written e q = rw (q refl)
          cases true true false written e q = clash refl e
          cases true false early written e q = clash refl e
          cases false true true written e q = clash e refl
          cases false true false written e q = refl
          cases false false early written e q = refl

      kept_found : (place : ℕ) → place < 4 → found_at jobs committed j (suc k) place ≡ found_at jobs committed j k place
      kept_found place l =
          if-or (looks_back (job_at jobs j) place)
          (λ t.
          let none : (leb (from (cell_at place)) (suc k) && open_at k (cell_at place) 1) ≡ false =
          if-or (leb (from (cell_at place)) (suc k))
          (λ u. rw u (quiet (cell_at place) 1 (place_wants (suc k) place walk so_far l t ∙ u)))
          (λ f. rw f) in
          rw t (rw none at (now_found k earlier (cell_at place))))
          (λ f. rw (f, le-leb 0 (suc k) (omega arith), le-leb 0 k (omega arith)))

      not_bypassed : bypassed_in jobs committed j k ≡ false
      not_bypassed =
          rw (lt-ltb k j earlier)
          (any_absent 4 (bypass_at (λ i. job_at jobs i) (λ i. committed_in committed i) j k)
          (λ place l.
          if-or (looks_back (job_at jobs j) place)
          (λ t.
          rw t
          (if-or (leb (from (cell_at place)) k)
          (λ u.
          rw u
          (quiet (cell_at place) 2
          (place_wants (suc k) place walk so_far l t
          ∙ le-leb (from (cell_at place)) (suc k) (omega (arith, leb-true (from (cell_at place)) k u)))))
          (λ f. rw f)))
          (λ f. rw f)))

      kept : Walked jobs committed j k walk
      kept = record {
        fits = so_far.fits;
        wants = kept_wants;
        sources = so_far.sources ∙ four_same (found_at jobs committed j (suc k)) (found_at jobs committed j k) kept_found;
        words = so_far.words;
        bypassed = λ m. so_far.bypassed m ∙ rw not_bypassed at (one_less k m (bypassed_in jobs committed j));
      }

    -- A job that is committed, or names no cell that is wanted, is no such writer.
    unmet : (k : ℕ) (wanted : ℕ) → is_met (job_at jobs k) (get_or committed k 0) wanted ≡ false
        → (cell mode : ℕ) → bit wanted cell ≡ true → open_at k cell mode ≡ false
    unmet k wanted e cell mode t =
        if-or (is_committed (get_or committed k 0)) (λ u. rw u)
        (λ f.
        rw f
        (any_absent 4 (λ i. in_use (job_at jobs k) i && access_is mode cell (access_at (job_at jobs k) i))
        (λ i l.
        if-or (eqb (access_at (job_at jobs k) i).cell cell)
        (λ q.
        unused (in_use (job_at jobs k) i) (bit wanted (access_at (job_at jobs k) i).cell) (access_is mode cell (access_at (job_at jobs k) i))
        (ap (bit wanted) (eqb-true (access_at (job_at jobs k) i).cell cell q) ∙ t)
        (any_fails 4 i (wanted_at (job_at jobs k) wanted) (rw f at e) l))
        (λ q. rw q (and_false (in_use (job_at jobs k) i))))))
      where
        unused : (used wants is : Bool) → wants ≡ true → (used && wants) ≡ false → (used && is) ≡ false
        unused false wants is u f = refl
        unused true wants is u f = clash u f

    -- The turn past a job that is not committed.
    module _ (k : ℕ) (earlier : k < j) (few : k < 128) (is_open : is_committed (get_or committed k 0) ≡ false)
        (plain : Plain (job_at jobs k)) (walk : Walk) (so_far : Walked jobs committed j (suc k) walk) where
      abbrev past : Walk
      past = walk_past walk (job_at jobs j) (job_at jobs k) k

      past_fits : past.wanted < 2 ^ 64
      past_fits =
          let sure = (cells_of (job_at jobs k)).sure in
          let few-sure = word_fits surely_writes (job_at jobs k) in
          xor_lt 64 (bit_or walk.wanted sure) sure (or_lt 64 walk.wanted sure so_far.fits few-sure) few-sure

      past_wants : (cell : ℕ) → cell < 64
          → bit past.wanted cell ≡ (bit (cells_of (job_at jobs j)).back cell && leb (from cell) k)
      past_wants cell h =
          bit_without walk.wanted (cells_of (job_at jobs k)).sure cell
          ∙ rw (so_far.wants cell h, sure_bit (job_at jobs k) cell h, ← still_wanted k earlier cell, is_open)
          (cases (bit (cells_of (job_at jobs j)).back cell) (leb (from cell) (suc k)) (writes (job_at jobs k) cell))
        where
          cases : (back early written : Bool) → (not written && (back && early)) ≡ (back && (early && not written))
          cases true true true = refl
          cases true true false = refl
          cases true false true = refl
          cases true false false = refl
          cases false early true = refl
          cases false early false = refl

      past_found : (place : ℕ) → place < 4
          → source_or (job_at jobs j) (bit_and walk.wanted (cells_of (job_at jobs k)).sure) (k + 1) place
          (found_at jobs committed j (suc k) place)
          ≡ found_at jobs committed j k place
      past_found place l =
          if-or (looks_back (job_at jobs j) place)
          (λ t.
          let met : bit (bit_and walk.wanted (cells_of (job_at jobs k)).sure) (cell_at place)
          ≡ (leb (from (cell_at place)) (suc k) && writes (job_at jobs k) (cell_at place)) =
          bit_and_lem walk.wanted (cells_of (job_at jobs k)).sure (cell_at place)
          ∙ rw (place_wants (suc k) place walk so_far l t, sure_bit (job_at jobs k) (cell_at place) (place_within place l t)) in
          rw (t, met, add-one) (rw is_open at (now_found k earlier (cell_at place))))
          (λ f. rw (f, le-leb 0 (suc k) (omega arith), le-leb 0 k (omega arith)))

      -- Job k is bypassed where it may write a cell that is still wanted.
      past_test : not (eqb (bit_and past.wanted (cells_of (job_at jobs k)).written) 0) ≡ bypassed_in jobs committed j k
      past_test =
          rw (lt-ltb k j earlier)
          (sym (any_bit 64 both (omega (arith, and_le_l past.wanted (cells_of (job_at jobs k)).written, past_fits)))
          ∙ any_same 64 (bit both) (λ cell. bit (cells_of (job_at jobs j)).back cell && passes cell) at_cell
          ∙ sym (by_cell is_unpredicted (job_at jobs j) passes within)
          ∙ any_same 4 (λ i. in_use (job_at jobs j) i && (is_unpredicted (access_at (job_at jobs j) i) && passes (cell_at i)))
          (bypass_at (λ i. job_at jobs i) (λ i. committed_in committed i) j k)
          (λ i l.
          at_place (in_use (job_at jobs j) i) (is_unpredicted (access_at (job_at jobs j) i)) (from (cell_at i)) (open_at k (cell_at i) 2)))
        where
          both : ℕ
          both = bit_and past.wanted (cells_of (job_at jobs k)).written

          passes : ℕ → Bool
          passes cell = leb (from cell) k && open_at k cell 2

          at_place : (used unpredicted : Bool) (source : ℕ) (writer : Bool)
              → (used && (unpredicted && (leb source k && writer)))
              ≡ ((used && unpredicted) && (leb (cond (used && unpredicted) source 0) k && writer))
          at_place true true source writer = refl
          at_place true false source writer = refl
          at_place false unpredicted source writer = refl

          at_cell : (cell : ℕ) → cell < 64 → bit both cell ≡ (bit (cells_of (job_at jobs j)).back cell && passes cell)
          at_cell cell h =
              bit_and_lem past.wanted (cells_of (job_at jobs k)).written cell
              ∙ rw (past_wants cell h, written_bit (job_at jobs k) cell h)
              (if-or (leb (from cell) k)
              (λ t.
              rw (t, is_open, uncertain_cell (job_at jobs k) cell plain (rw is_open at (not_before k earlier cell t)))
              (kept_and (bit (cells_of (job_at jobs j)).back cell) (maybe_writes (job_at jobs k) cell)))
              (λ f. rw (f, and_false (bit (cells_of (job_at jobs j)).back cell))))
            where
              kept_and : (back maybe : Bool) → ((back && true) && maybe) ≡ (back && maybe)
              kept_and true maybe = refl
              kept_and false maybe = refl

      with_or_without : (without : Bool) (set : JobSet) (m : ℕ)
          → has_job (cond without set (with_job set k)) m ≡ ((not without && eqb m k) || has_job set m)
      with_or_without true set m = refl
      with_or_without false set m = has_with set k m few

      past_words : (past.bypassed.low < 2 ^ 64) × (past.bypassed.high < 2 ^ 64)
      past_words =
          if-or (eqb (bit_and past.wanted (cells_of (job_at jobs k)).written) 0)
          (λ t. rw t so_far.words)
          (λ f. rw f (with_words walk.bypassed k so_far.words.0 so_far.words.1))

      passed : Walked jobs committed j k past
      passed = record {
        fits = past_fits;
        wants = past_wants;
        sources =
            rw so_far.sources
            (four_same
            (λ place.
            source_or (job_at jobs j) (bit_and walk.wanted (cells_of (job_at jobs k)).sure) (k + 1) place
            (found_at jobs committed j (suc k) place))
            (found_at jobs committed j k) past_found);
        words = past_words;
        bypassed =
            λ m.
            with_or_without (eqb (bit_and past.wanted (cells_of (job_at jobs k)).written) 0) walk.bypassed m
            ∙ rw (past_test, so_far.bypassed m) (one_less k m (bypassed_in jobs committed j));
      }

    -- Where nothing is wanted, no job before is met.
    nothing_wanted : (i : ℕ) (walk : Walk) → i ≤ j → Walked jobs committed j i walk → walk.wanted ≡ 0 → Walked jobs committed j 0 walk
    nothing_wanted zero walk h so_far e = so_far
    nothing_wanted (suc k) walk h so_far e =
        nothing_wanted k walk (omega arith)
        (kept k (omega arith) walk so_far (λ cell mode t. clash t (ap (λ (word : ℕ). bit word cell) e ∙ bit_zero cell))) e

  -- Before the first turn, and after the last.

  start : Walked jobs committed j j (record { wanted = (cells_of (job_at jobs j)).back; sources = replicate 4 0; bypassed = empty_set })
  start = record {
    fits = word_fits is_unpredicted (job_at jobs j);
    wants = λ cell h. rw (below cell) (all (bit (cells_of (job_at jobs j)).back cell));
    sources = four_same (λ place. 0) (found_at jobs committed j j) (λ place l. none place);
    words = (lit< tt, lit< tt);
    bypassed =
        λ m. has_empty m ∙ if-or (leb j m) (λ t. rw (t, le-ltb m j (leb-true j m t))) (λ f. rw f);
  }
    where
      below : (cell : ℕ) → leb (from cell) j ≡ true
      below cell = le-leb (from cell) j (source_le (λ i. job_at jobs i) (λ i. committed_in committed i) cell j)

      all : (back : Bool) → back ≡ (back && true)
      all true = refl
      all false = refl

      none : (place : ℕ) → 0 ≡ found_at jobs committed j j place
      none place =
          if-or (looks_back (job_at jobs j) place)
          (λ t. rw (t, below (cell_at place)))
          (λ f. rw (f, le-leb 0 j (omega arith)))

  end : (walk : Walk) → j ≤ 128 → Walked jobs committed j 0 walk → found_by walk ≡ origins_of jobs committed j
  end walk h so_far =
      ap₂ (λ (sources : List ℕ) (bypassed : JobSet). record { sources = sources; bypassed = bypassed })
      (so_far.sources ∙ four_same (found_at jobs committed j 0) (source_in jobs committed j) (λ place l. all (source_in jobs committed j place)))
      (same_jobs walk.bypassed (set_of j (bypassed_in jobs committed j)) so_far.words (set_words j (bypassed_in jobs committed j))
      (λ m.
      so_far.bypassed m
      ∙ rw (le-leb 0 m (omega arith), has_set_of j (bypassed_in jobs committed j) m h)
      (twice (ltb m j) (any_below 4 (bypass_at (λ i. job_at jobs i) (λ i. committed_in committed i) j m)))))
    where
      all : (source : ℕ) → cond (leb source 0) 0 source ≡ source
      all source = if-or (leb source 0) (λ t. rw t (omega (arith, leb-true source 0 t))) (λ f. rw f)

      twice : (t u : Bool) → (t && u) ≡ (t && (t && u))
      twice true u = refl
      twice false u = refl

-- From job i to the one before it.
back_one : (P : ℕ → ℕ → Type 0) → ((k : ℕ) → P (suc k) k) → (i : ℕ) → 0 < i → P i (i - 1)
back_one P f zero h = absurd (omega arith)
back_one P f (suc k) h = rw sub-one (f k)

-- The turns of the loop.
module _ (jobs : List Job) (committed : List ℕ) (j : ℕ) (few : j < 128) (plain : AllPlain jobs j) where
  pub walk_start : Walked jobs committed j j (record { wanted = (cells_of (job_at jobs j)).back; sources = replicate 4 0; bypassed = empty_set })
  walk_start = start jobs committed j

  -- A job that is passed by.
  pub walk_unmet : (i : ℕ) (walk : Walk) → 0 < i → i ≤ j → Walked jobs committed j i walk
      → is_met (job_at jobs (i - 1)) (get_or committed (i - 1) 0) walk.wanted ≡ false → Walked jobs committed j (i - 1) walk
  walk_unmet i walk h =
      back_one
      (λ i k.
      i ≤ j → Walked jobs committed j i walk → is_met (job_at jobs k) (get_or committed k 0) walk.wanted ≡ false
      → Walked jobs committed j k walk)
      (λ k l so_far e.
      let within = (plain j (omega arith)).within in
      kept jobs committed j within k (omega arith) walk so_far (unmet jobs committed j within k walk.wanted e))
      i h

  -- A job that is met.
  pub walk_met : (i : ℕ) (walk : Walk) → 0 < i → i ≤ j → Walked jobs committed j i walk
      → is_met (job_at jobs (i - 1)) (get_or committed (i - 1) 0) walk.wanted ≡ true
      → Walked jobs committed j (i - 1) (walk_past walk (job_at jobs j) (job_at jobs (i - 1)) (i - 1))
  walk_met i walk h =
      back_one
      (λ i k.
      i ≤ j → Walked jobs committed j i walk → is_met (job_at jobs k) (get_or committed k 0) walk.wanted ≡ true
      → Walked jobs committed j k (walk_past walk (job_at jobs j) (job_at jobs k) k))
      (λ k l so_far e.
      let is_open = not_true (is_committed (get_or committed k 0))
      (and_left (not (is_committed (get_or committed k 0))) (any_below 4 (wanted_at (job_at jobs k) walk.wanted)) e) in
      passed jobs committed j (plain j (omega arith)).within k (omega arith) (omega arith) is_open (plain k (omega arith)) walk so_far)
      i h

  -- The end, and the same where nothing is wanted any more.

  pub walk_end : (walk : Walk) → Walked jobs committed j 0 walk → found_by walk ≡ origins_of jobs committed j
  walk_end walk so_far = end jobs committed j walk (omega arith) so_far

  pub walk_done : (i : ℕ) (walk : Walk) → i ≤ j → Walked jobs committed j i walk → walk.wanted ≡ 0
      → found_by walk ≡ origins_of jobs committed j
  walk_done i walk h so_far e =
      walk_end walk (nothing_wanted jobs committed j (plain j (omega arith)).within i walk h so_far e)
