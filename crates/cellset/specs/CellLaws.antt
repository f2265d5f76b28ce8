-- What the words of a job's cells say: which cells it names, may write, surely writes, and looks back for.
use Prim.Native.Nat.{ℕ, zero, suc, ◌+◌, ◌-◌, ◌^◌, ◌<◌, min}
use native.Mathlib.Omega.{arith}
use Rattle.std.proofs.Math.Nat.{add-zero}
use Rattle.std.proofs.Common.{add-suc, sym, ◌∙◌}
use Rattle.std.proofs.Math.Numerals.{add-one}
use Rattle.std.specs.Prelude.{Bool, true, false, cond, ◌&&◌, ◌||◌, ◌≡◌, eqb, ltb}
use Rattle.std.proofs.Math.Bool.{and_assoc, and_comm}
use Rattle.std.proofs.Math.Path.{refl}
use Rattle.std.proofs.Math.Dec.{lit<}
use borrow.Author.Tests.{eqb-true, eq-eqb, ne_eqb, ltb-true, ltb-false, le-leb, lt-leb}
use Rattle.laws.specs.Search.{any_below}
use Rattle.laws.specs.SearchLaws.{any_same, any_and, any_swap, any_found, any_absent, if-or, and_false, eqb_comm}
use Rattle.laws.specs.Fold.{fold_below}
use Rattle.dependence.specs.declared.Access.{Access}
use Rattle.dependence.specs.declared.Job.{Job}
use Rattle.dependence.specs.Job.{in_use, access_at}
use Rattle.dependence.specs.Sort.{may_write, names_cell, may_write_at, may_write_cell}
use Rattle.jobset.specs.JobSet.{bit, with_bit}
use Rattle.jobset.specs.Bits.{bit_zero, bit_with, with_fits}
use Rattle.rules.specs.Walk.{access_is, writes, looks_back}
use Rattle.cellset.specs.declared.Cells.{Cells}
use Rattle.cellset.specs.Cells.{word_with, word_of, any_mode, surely_writes, is_unpredicted, no_cells, with_place, with_access, cells_of}

-- Place i of the job is in use, its access satisfies p, and the cell is its.
abbrev pub uses_at : (Access → Bool) → Job → ℕ → ℕ → Bool
uses_at p job cell i = in_use job i && (p (access_at job i) && eqb cell (access_at job i).cell)

-- A search for one number.
any_one : (n k : ℕ) (f : ℕ → Bool) → k < n → any_below n (λ i. f i && eqb i k) ≡ f k
any_one n k f h =
    if-or (f k)
    (λ t. any_found n k (λ i. f i && eqb i k) h (rw (t, eq-eqb k k refl)) ∙ sym t)
    (λ e.
    any_absent n (λ i. f i && eqb i k)
    (λ i l. if-or (eqb i k) (λ t. rw (eqb-true i k t, e)) (λ u. rw u (and_false (f i))))
    ∙ sym e)

module _ (p : Access → Bool) (job : Job) where
  with_bit_lem : (i word cell : ℕ) → cell < 64 → bit (word_with p job i word) cell ≡ (uses_at p job cell i || bit word cell)
  with_bit_lem i word cell h = cases (in_use job i) (ltb (access_at job i).cell 64) (p (access_at job i)) refl
    where
      cases : (used fits holds : Bool) → ltb (access_at job i).cell 64 ≡ fits
          → bit (cond (used && (fits && holds)) (with_bit word (access_at job i).cell) word) cell
          ≡ ((used && (holds && eqb cell (access_at job i).cell)) || bit word cell)
      cases false fits holds e = refl
      cases true true true e = bit_with word (access_at job i).cell cell
      cases true fits false e = rw (and_false fits)
      cases true false true e =
          rw (ne_eqb cell (access_at job i).cell (λ q. omega (arith, ltb-false (access_at job i).cell 64 e)))

  fold_bit : (n cell : ℕ) → cell < 64 → bit (fold_below n (word_with p job) 0) cell ≡ any_below n (uses_at p job cell)
  unfolding fold_below any_below
  fold_bit zero cell h = bit_zero cell
  fold_bit (suc n) cell h = with_bit_lem n (fold_below n (word_with p job) 0) cell h ∙ rw (fold_bit n cell h)

  with_word : (i word : ℕ) → word < 2 ^ 64 → word_with p job i word < 2 ^ 64
  with_word i word h = cases (in_use job i) (ltb (access_at job i).cell 64) (p (access_at job i)) refl
    where
      cases : (used fits holds : Bool) → ltb (access_at job i).cell 64 ≡ fits
          → cond (used && (fits && holds)) (with_bit word (access_at job i).cell) word < 2 ^ 64
      cases false fits holds e = h
      cases true false holds e = h
      cases true true false e = h
      cases true true true e = with_fits 64 word (access_at job i).cell h (ltb-true (access_at job i).cell 64 e)

  fold_fits : (n : ℕ) → fold_below n (word_with p job) 0 < 2 ^ 64
  unfolding fold_below
  fold_fits zero = lit< tt
  fold_fits (suc n) = with_word n (fold_below n (word_with p job) 0) (fold_fits n)

  -- A cell is in the word just where such a place has it.
  pub word_bit : (cell : ℕ) → cell < 64 → bit (word_of p job) cell ≡ any_below 4 (uses_at p job cell)
  unfolding word_of
  word_bit cell h = fold_bit 4 cell h

  pub word_fits : word_of p job < 2 ^ 64
  unfolding word_of
  word_fits = fold_fits 4

  -- A search over such places is one over the cells in the word.
  pub by_cell : (f : ℕ → Bool) → ((i : ℕ) → i < 4 → in_use job i ≡ true → (access_at job i).cell < 64)
      → any_below 4 (λ i. in_use job i && (p (access_at job i) && f (access_at job i).cell))
      ≡ any_below 64 (λ cell. bit (word_of p job) cell && f cell)
  by_cell f within =
      any_same 4 (λ i. in_use job i && (p (access_at job i) && f (access_at job i).cell))
      (λ i. any_below 64 (λ cell. f cell && uses_at p job cell i))
      (λ i l. if-or (in_use job i) (λ t. rw t (at (p (access_at job i)) i (within i l t))) (λ e. rw e (sym (nowhere f))))
      ∙ any_swap 4 64 (λ i cell. f cell && uses_at p job cell i)
      ∙ any_same 64 (λ cell. any_below 4 (λ i. f cell && uses_at p job cell i)) (λ cell. bit (word_of p job) cell && f cell)
      (λ cell l.
      any_and 4 (f cell) (uses_at p job cell)
      ∙ rw (← word_bit cell l) (and_comm (f cell) (bit (word_of p job) cell)))
    where
      nowhere : (f : ℕ → Bool) → any_below 64 (λ cell. f cell && false) ≡ false
      nowhere f = any_absent 64 (λ cell. f cell && false) (λ cell l. and_false (f cell))

      at : (holds : Bool) (i : ℕ) → (access_at job i).cell < 64
          → (holds && f (access_at job i).cell) ≡ any_below 64 (λ cell. f cell && (holds && eqb cell (access_at job i).cell))
      at false i l = sym (nowhere f)
      at true i l = sym (any_one 64 (access_at job i).cell f l)

-- What each of the four words says.
module _ (job : Job) (cell : ℕ) (h : cell < 64) where
  pub named_bit : bit (cells_of job).named cell ≡ names_cell cell job
  unfolding names_cell
  named_bit = word_bit any_mode job cell h

  pub written_bit : bit (cells_of job).written cell ≡ may_write_cell cell job
  unfolding may_write_cell
  written_bit =
      word_bit may_write job cell h
      ∙ any_same 4 (uses_at may_write job cell) (may_write_at cell job)
      (λ i l.
      rw (and_comm (may_write (access_at job i)) (eqb cell (access_at job i).cell))
      (sym (and_assoc (in_use job i) (eqb cell (access_at job i).cell) (may_write (access_at job i)))))

  pub sure_bit : bit (cells_of job).sure cell ≡ writes job cell
  sure_bit =
      word_bit surely_writes job cell h
      ∙ any_same 4 (uses_at surely_writes job cell) (λ i. in_use job i && access_is 1 cell (access_at job i))
      (λ i l.
      rw (eqb_comm cell (access_at job i).cell, and_comm (surely_writes (access_at job i)) (eqb (access_at job i).cell cell)))

  pub back_bit : bit (cells_of job).back cell ≡ any_below 4 (λ i. looks_back job i && eqb cell (access_at job i).cell)
  back_bit =
      word_bit is_unpredicted job cell h
      ∙ any_same 4 (uses_at is_unpredicted job cell) (λ i. looks_back job i && eqb cell (access_at job i).cell)
      (λ i l. sym (and_assoc (in_use job i) (is_unpredicted (access_at job i)) (eqb cell (access_at job i).cell)))

-- The pass over the places in use alone: a place that is not changes no word.
module _ (job : Job) where
  -- The four words after n places.
  abbrev pub cells_below : ℕ → Cells
  cells_below n =
      record {
        named = fold_below n (word_with any_mode job) 0;
        written = fold_below n (word_with may_write job) 0;
        sure = fold_below n (word_with surely_writes job) 0;
        back = fold_below n (word_with is_unpredicted job) 0;
      }

  pub cells_none : no_cells ≡ cells_below 0
  unfolding fold_below
  cells_none = refl

  pub cells_more : (n : ℕ) → with_place job n (cells_below n) ≡ cells_below (n + 1)
  unfolding fold_below
  cells_more n = rw add-one

  -- A place in use adds its access.
  pub cells_next : (n : ℕ) → n < job.arity → with_access (access_at job n) (cells_below n) ≡ cells_below (n + 1)
  cells_next n h = rw (lt-leb job.arity n h) at (cells_more n)

  unused : (p : Access → Bool) (k : ℕ) → fold_below (job.arity + k) (word_with p job) 0 ≡ fold_below job.arity (word_with p job) 0
  unfolding fold_below
  unused p zero = rw add-zero
  unused p (suc k) = rw (add-suc, le-leb job.arity (job.arity + k) (omega arith)) (unused p k)

  word_used : (p : Access → Bool) → fold_below (min job.arity 4) (word_with p job) 0 ≡ word_of p job
  unfolding word_of
  word_used p =
      if-or (ltb job.arity 4)
      (λ t.
      let few = ltb-true job.arity 4 t in
      let here : min job.arity 4 ≡ job.arity = omega arith in
      let all : job.arity + (4 - job.arity) ≡ 4 = omega arith in
      rw here (sym (rw all at (unused p (4 - job.arity)))))
      (λ f.
      let many = ltb-false job.arity 4 f in
      let here : min job.arity 4 ≡ 4 = omega arith in
      rw here)

  pub cells_used : cells_below (min job.arity 4) ≡ cells_of job
  cells_used = rw (word_used any_mode, word_used may_write, word_used surely_writes, word_used is_unpredicted)
