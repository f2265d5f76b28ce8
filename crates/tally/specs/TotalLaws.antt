-- Laws of the total: adding one tally after the other leads to it, in any order, and it is in balance where each tally is.
use Rattle.std.specs.Prelude.{ℕ, suc, ◌+◌, ◌-◌, ◌<◌, ◌≤◌, max, true, false, List, [], ◌∷◌, ◌++◌, ◌≡◌, refl, ltb, length, get_or, drop, take, fold}
use Rattle.std.proofs.Common.{arith, lt_of_lt_of_le, sym, ap, ◌∙◌, drop_of_length-le, drop-cons, ltb-true, ltb-false, lt-ltb, le-ltb}
use Rattle.std.proofs.lemmas.List.{take_all}
use Rattle.laws.specs.SearchLaws.{if-or}
use Rattle.tally.specs.declared.Tally.{Tally}
use Rattle.tally.specs.declared.TallyAnswer.{TallyAnswer}
use Rattle.tally.specs.Tally.{no_tally, given, refused, Balanced}
use Rattle.tally.specs.Total.{sum_of_two, sum_of, most, largest, is_over, fitted, total_of, no_total, added_to}

-- The two answers.

pub fitted_over : (t : Tally) → is_over t ≡ true → fitted t ≡ refused 23
unfolding fitted
fitted_over t e = rw e

pub fitted_not : (t : Tally) → is_over t ≡ false → fitted t ≡ given t
unfolding fitted
fitted_not t e = rw e

-- Whether a sum of two numbers does not fit, asked without adding.
pub sum_over : (a b : ℕ) → a ≤ most → ltb (most - a) b ≡ ltb most (a + b)
sum_over a b h =
    if-or (ltb (most - a) b)
    (λ over. over ∙ sym (lt-ltb most (a + b) (omega (arith, ltb-true (most - a) b over))))
    (λ fits. fits ∙ sym (le-ltb most (a + b) (omega (arith, ltb-false (most - a) b fits))))

module _ (t : Tally) where
  -- A tally is over where one of its numbers is; and where four of them fit, it hangs on the fifth.

  pub over_by : (n : ℕ) → n ≤ largest t → ltb most n ≡ true → is_over t ≡ true
  over_by n h e = lt-ltb most (largest t) (lt_of_lt_of_le (ltb-true most n e) h)

  pub over_last : ltb most t.jobs ≡ false → ltb most t.started ≡ false → ltb most t.kept ≡ false
      → ltb most t.discarded ≡ false → is_over t ≡ ltb most t.pending
  over_last jobs started kept discarded =
      if-or (ltb most t.pending)
      (λ over. over_by t.pending (omega arith) over ∙ sym over)
      (λ fits.
      le-ltb most (largest t)
      (omega (
        arith,
        ltb-false most t.jobs jobs,
        ltb-false most t.started started,
        ltb-false most t.kept kept,
        ltb-false most t.discarded discarded,
        ltb-false most t.pending fits,
      ))
      ∙ sym fits)

  -- Where it is not over, each of its numbers fits.
  pub not_over : is_over t ≡ false → largest t ≤ most
  not_over e = ltb-false most (largest t) e

-- Two tallies with the same numbers are the same.
same_tally : (a b : Tally) → a.jobs ≡ b.jobs → a.started ≡ b.started → a.kept ≡ b.kept → a.discarded ≡ b.discarded
    → a.pending ≡ b.pending → a ≡ b
same_tally a b jobs started kept discarded pending = λ i.
    record {
      jobs = jobs i;
      started = started i;
      kept = kept i;
      discarded = discarded i;
      pending = pending i;
    }

-- Sums of tallies are like sums of numbers.

sum_none : (t : Tally) → sum_of_two t no_tally ≡ t
sum_none t = same_tally _ t (omega arith) (omega arith) (omega arith) (omega arith) (omega arith)

none_sum : (t : Tally) → sum_of_two no_tally t ≡ t
none_sum t = same_tally _ t (omega arith) (omega arith) (omega arith) (omega arith) (omega arith)

sum_assoc : (s t u : Tally) → sum_of_two (sum_of_two s t) u ≡ sum_of_two s (sum_of_two t u)
sum_assoc s t u = same_tally _ _ (omega arith) (omega arith) (omega arith) (omega arith) (omega arith)

sum_exchanged : (s t u : Tally) → sum_of_two s (sum_of_two t u) ≡ sum_of_two t (sum_of_two s u)
sum_exchanged s t u = same_tally _ _ (omega arith) (omega arith) (omega arith) (omega arith) (omega arith)

-- R76: two neighbours in the list may change places, and so, one exchange after the other, it may have any order.
pub total_exchanged : (front : List Tally) (s t : Tally) (back : List Tally)
    → total_of (front ++ (s ∷ t ∷ back)) ≡ total_of (front ++ (t ∷ s ∷ back))
unfolding sum_of
total_exchanged front s t back = ap fitted (exchanged front)
  where
    exchanged : (front : List Tally) → sum_of (front ++ (s ∷ t ∷ back)) ≡ sum_of (front ++ (t ∷ s ∷ back))
    exchanged [] = sum_exchanged s t (sum_of back)
    exchanged (u ∷ front) = ap (sum_of_two u) (exchanged front)

-- What a loop makes of a list, from a total so far.
unfoldable pub total_from : TallyAnswer → List Tally → TallyAnswer
total_from total [] = total
total_from total (tally ∷ tallies) = total_from (added_to total tally) tallies

pub total_next : (total : TallyAnswer) (tallies : List Tally) (i : ℕ) → i < length tallies
    → total_from total (drop i tallies) ≡ total_from (added_to total (get_or tallies i no_tally)) (drop (suc i) tallies)
unfolding total_from
total_next total tallies i h = rw (drop-cons tallies i no_tally h)

pub total_end : (total : TallyAnswer) (tallies : List Tally) (i : ℕ) → length tallies ≤ i → total_from total (drop i tallies) ≡ total
unfolding total_from
total_end total tallies i h = rw (drop_of_length-le tallies h)

stays_refused : (tallies : List Tally) → total_from (refused 23) tallies ≡ refused 23
unfolding total_from
stays_refused [] = refl
stays_refused (tally ∷ tallies) = stays_refused tallies

-- More to add makes no number smaller, the largest too.
larger : {a b c d : ℕ} → a ≤ c → b ≤ d → max a b ≤ max c d
larger h k = omega (arith, h, k)

largest_more : (s t : Tally) → largest s ≤ largest (sum_of_two s t)
largest_more s t = larger (omega arith) (larger (omega arith) (larger (omega arith) (larger (omega arith) (omega arith))))

over_more : (s t : Tally) → is_over s ≡ true → is_over (sum_of_two s t) ≡ true
over_more s t e = over_by (sum_of_two s t) (largest s) (largest_more s t) e

-- So a sum so far is over only where the whole sum is.
fitted_from : (s : Tally) (tallies : List Tally) → total_from (fitted s) tallies ≡ fitted (sum_of_two s (sum_of tallies))
unfolding total_from sum_of
fitted_from s [] = ap fitted (sym (sum_none s))
fitted_from s (tally ∷ tallies) =
    if-or (is_over s)
    (λ over.
    rw (fitted_over s over)
    (stays_refused tallies ∙ sym (fitted_over (sum_of_two s (sum_of (tally ∷ tallies))) (over_more s (sum_of (tally ∷ tallies)) over))))
    (λ fits.
    rw (fitted_not s fits)
    (fitted_from (sum_of_two s tally) tallies ∙ ap fitted (sum_assoc s tally (sum_of tallies))))

-- From nothing on, the loop comes to the total.
pub total_from_none : (tallies : List Tally) → total_from no_total tallies ≡ total_of tallies
total_from_none tallies =
    ap (λ (total : TallyAnswer). total_from total tallies) (sym (fitted_not no_tally refl))
    ∙ fitted_from no_tally tallies
    ∙ ap fitted (none_sum (sum_of tallies))

-- The loop is std's fold.
pub total_folded : (tallies : List Tally) → fold added_to no_total tallies ≡ total_of tallies
unfolding total_from
total_folded tallies = same no_total tallies ∙ total_from_none tallies
  where
    same : (total : TallyAnswer) (tallies : List Tally) → fold added_to total tallies ≡ total_from total tallies
    same total [] = refl
    same total (tally ∷ tallies) = same (added_to total tally) tallies

pub total_passed : (tallies : List Tally) (n : ℕ) → length tallies ≤ n → fold added_to no_total (take n tallies) ≡ total_of tallies
total_passed tallies n h = rw (take_all n tallies h) (total_folded tallies)

-- R178: a total is in balance where each tally added is; a refused one, all zeros, is anyway.
pub sum_balanced : (a b : Tally) → Balanced a → Balanced b → Balanced (sum_of_two a b)
sum_balanced a b h k = omega (arith, h, k)

pub fitted_balanced : (t : Tally) → Balanced t → Balanced (fitted t).tally
fitted_balanced t h =
    if-or (is_over t)
    (λ over. rw (fitted_over t over))
    (λ fits. rw (fitted_not t fits) h)
