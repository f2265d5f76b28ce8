-- The chooser's columns, which the survey reads, and the pick: that they are the definition's.
use Rattle.std.specs.Prelude.{ℕ, zero, suc, ◌+◌, ◌<◌, ◌≤◌, Bool, true, false, List, ◌≡◌, refl, eqb, length, get_or, set}
use Rattle.std.proofs.Common.{arith, add-one, eq-or-lt_of_le, ⊎_elim, ap, ◌∙◌, length-set, get_or-set_same, get_or-set_other}
use Rattle.laws.specs.SearchLaws.{if-or, clash}
use Rattle.dependence.specs.declared.Job.{Job}
use Rattle.dependence.specs.Job.{job_at}
use Rattle.cellset.specs.declared.Cells.{Cells}
use Rattle.cellset.specs.Cells.{cells_of}
use Rattle.cellset.specs.Survey.{columns}
use Rattle.cellset.specs.SurveyLaws.{Tells}
use Rattle.engine.specs.declared.Batch.{Batch}
use Rattle.engine.specs.Record.{snapshot_of}
use Rattle.engine.specs.Form.{in_form}
use Rattle.engine.specs.FormLaws.{form_plain}
use Rattle.engine.specs.Chooser.{better, no_pick, pick_below, arity_at}

-- A column that holds f's values at those of its places below n that satisfy p.
pub record Filled (n : ℕ) (p : ℕ → Bool) (f : ℕ → ℕ) (column : List ℕ) : Type 0 where
  pub long : length column ≡ 128
  pub at : (i : ℕ) → i < n → p i ≡ true → get_or column i 0 ≡ f i

module _ (p : ℕ → Bool) (f : ℕ → ℕ) where
  filled_none : (column : List ℕ) → length column ≡ 128 → Filled 0 p f column
  filled_none column long = record { long = long; at = λ i h t. absurd (omega arith) }

  -- Of what holds for place n and for the places before it.
  each : (n : ℕ) (P : ℕ → Type 0) → P n → ((i : ℕ) → i < n → P i) → (i : ℕ) → i < n + 1 → P i
  each n P last before i h =
      let le : i ≤ n = omega arith in
      ⊎_elim (λ (q : i ≡ n). rw q last) (λ (l : i < n). before i l) (eq-or-lt_of_le le)

  filled_past : (n : ℕ) (column : List ℕ) → p n ≡ false → Filled n p f column → Filled (n + 1) p f column
  filled_past n column e so_far = record {
    long = so_far.long;
    at = each n (λ i. p i ≡ true → get_or column i 0 ≡ f i) (λ t. clash t e) so_far.at;
  }

  filled_more : (n : ℕ) (column : List ℕ) (v : ℕ) → n < 128 → v ≡ f n → Filled n p f column → Filled (n + 1) p f (set column n v)
  filled_more n column v h e so_far = record {
    long = length-set column n v ∙ so_far.long;
    at =
        each n (λ i. p i ≡ true → get_or (set column n v) i 0 ≡ f i)
        (λ t. get_or-set_same column n v 0 (omega (arith, so_far.long)) ∙ e)
        (λ i l t. get_or-set_other column n i v 0 (λ q. omega arith) ∙ so_far.at i l t);
  }

-- The columns as the chooser fills them, of the jobs below n that are not committed.

abbrev pub open_at : Batch → ℕ → Bool
open_at b i = eqb (get_or b.committed i 0) 0

pub record Columned (b : Batch) (n : ℕ) (named written sure back arities : List ℕ) : Type 0 where
  pub names : Filled n (open_at b) (λ i. (cells_of (job_at b.jobs i)).named) named
  pub writes : Filled n (open_at b) (λ i. (cells_of (job_at b.jobs i)).written) written
  pub surely : Filled n (open_at b) (λ i. (cells_of (job_at b.jobs i)).sure) sure
  pub looks : Filled n (open_at b) (λ i. (cells_of (job_at b.jobs i)).back) back
  pub counts : Filled n (open_at b) (arity_at b) arities

module _ (b : Batch) where
  pub columned_none : (named written sure back arities : List ℕ) → length named ≡ 128 → length written ≡ 128 → length sure ≡ 128
      → length back ≡ 128 → length arities ≡ 128 → Columned b 0 named written sure back arities
  columned_none named written sure back arities h k l m n = record {
    names = filled_none (open_at b) (λ i. (cells_of (job_at b.jobs i)).named) named h;
    writes = filled_none (open_at b) (λ i. (cells_of (job_at b.jobs i)).written) written k;
    surely = filled_none (open_at b) (λ i. (cells_of (job_at b.jobs i)).sure) sure l;
    looks = filled_none (open_at b) (λ i. (cells_of (job_at b.jobs i)).back) back m;
    counts = filled_none (open_at b) (arity_at b) arities n;
  }

  module _ (n : ℕ) (named written sure back arities : List ℕ) (so_far : Columned b n named written sure back arities) where
    -- A committed job is passed over.
    pub columned_past : open_at b n ≡ false → Columned b (n + 1) named written sure back arities
    columned_past e = record {
      names = filled_past (open_at b) (λ i. (cells_of (job_at b.jobs i)).named) n named e so_far.names;
      writes = filled_past (open_at b) (λ i. (cells_of (job_at b.jobs i)).written) n written e so_far.writes;
      surely = filled_past (open_at b) (λ i. (cells_of (job_at b.jobs i)).sure) n sure e so_far.surely;
      looks = filled_past (open_at b) (λ i. (cells_of (job_at b.jobs i)).back) n back e so_far.looks;
      counts = filled_past (open_at b) (arity_at b) n arities e so_far.counts;
    }

    -- The turn of a job that is not.
    pub columned_more : (cells : Cells) → n < 128 → cells ≡ cells_of (job_at b.jobs n)
        → Columned b (n + 1) (set named n cells.named) (set written n cells.written) (set sure n cells.sure)
        (set back n cells.back) (set arities n (arity_at b n))
    columned_more cells h e = record {
      names =
          filled_more (open_at b) (λ i. (cells_of (job_at b.jobs i)).named) n named cells.named h
          (ap (λ (of : Cells). of.named) e) so_far.names;
      writes =
          filled_more (open_at b) (λ i. (cells_of (job_at b.jobs i)).written) n written cells.written h
          (ap (λ (of : Cells). of.written) e) so_far.writes;
      surely =
          filled_more (open_at b) (λ i. (cells_of (job_at b.jobs i)).sure) n sure cells.sure h
          (ap (λ (of : Cells). of.sure) e) so_far.surely;
      looks =
          filled_more (open_at b) (λ i. (cells_of (job_at b.jobs i)).back) n back cells.back h
          (ap (λ (of : Cells). of.back) e) so_far.looks;
      counts = filled_more (open_at b) (arity_at b) n arities (arity_at b n) h refl so_far.counts;
    }

  -- So the columns tell of the record.
  pub columned_tells : in_form b ≡ true → (named written sure back arities : List ℕ)
      → Columned b b.job_count named written sure back arities
      → Tells (snapshot_of b) (columns named written sure back b.committed b.running b.phase)
  columned_tells form named written sure back arities all = record {
    settled = λ i. refl;
    running = λ i. refl;
    phases = λ i. refl;
    cells = λ i h e. rw (all.names.at i h e, all.writes.at i h e, all.surely.at i h e, all.looks.at i h e);
    within = λ i h. (form_plain b form i h).within;
  }

-- They serve a later batch of the same jobs in which no job is open again.
pub columned_later : (b c : Batch) (n : ℕ) (named written sure back arities : List ℕ) → c.jobs ≡ b.jobs
    → ((i : ℕ) → open_at c i ≡ true → open_at b i ≡ true) → Columned b n named written sure back arities
    → Columned c n named written sure back arities
columned_later b c n named written sure back arities jobs opened all = record {
  names = later (λ job. (cells_of job).named) named all.names;
  writes = later (λ job. (cells_of job).written) written all.writes;
  surely = later (λ job. (cells_of job).sure) sure all.surely;
  looks = later (λ job. (cells_of job).back) back all.looks;
  counts = later (λ job. job.arity) arities all.counts;
}
  where
    later : (f : Job → ℕ) (column : List ℕ) → Filled n (open_at b) (λ i. f (job_at b.jobs i)) column
        → Filled n (open_at c) (λ i. f (job_at c.jobs i)) column
    later f column filled = record { long = filled.long; at = λ i h e. rw jobs (filled.at i h (opened i e)) }

-- The pick, a job a turn, and that it reads nothing else of the jobs: chains and accesses only of those that are allowed.

pub pick_none : (allowed : ℕ → Bool) (chain arity : ℕ → ℕ) → no_pick ≡ pick_below 0 allowed chain arity
unfolding pick_below
pick_none allowed chain arity = refl

pub pick_more : (n : ℕ) (allowed : ℕ → Bool) (chain arity : ℕ → ℕ)
    → better (pick_below n allowed chain arity) (allowed n) n (chain n) (arity n) ≡ pick_below (n + 1) allowed chain arity
unfolding pick_below
pick_more n allowed chain arity = rw add-one

pub pick_same : (n : ℕ) (p q : ℕ → Bool) (f g c d : ℕ → ℕ) → ((j : ℕ) → j < n → p j ≡ q j)
    → ((j : ℕ) → j < n → q j ≡ true → f j ≡ g j) → ((j : ℕ) → j < n → q j ≡ true → c j ≡ d j)
    → pick_below n p f c ≡ pick_below n q g d
unfolding pick_below
pick_same zero p q f g c d h k l = refl
pick_same (suc n) p q f g c d h k l =
    let before =
    pick_same n p q f g c d (λ j i. h j (omega arith)) (λ j i t. k j (omega arith) t) (λ j i t. l j (omega arith) t) in
    rw (before, h n (omega arith))
    (if-or (q n) (λ t. rw (k n (omega arith) t, l n (omega arith) t)) (λ e. rw e))
