-- R78: the size of a set of jobs and its lowest, what they mean, and how the counts of its two words give them.
use Rattle.std.specs.Prelude.{ℕ, ◌+◌, ◌-◌, ◌/◌, ◌^◌, ◌<◌, ◌≤◌, Bool, true, false, cond, not, ◌&&◌, ◌≡◌, eqb, leb, ltb, Option, None, Some}
use Rattle.std.proofs.Common.{arith, div-one, sym, ◌∙◌, ap, ap₂, ltb-true, ltb-false, leb-true, le-leb, eqb-true}
use Rattle.std.proofs.Math.Dec.{leb-zero}
use Rattle.std.specs.Option.{option_or}
use Rattle.std.specs.Int.Count.{ones, count_trailing_zeros}
use Rattle.std.proofs.lemmas.Nat.{shr_le}
use Rattle.laws.specs.Search.{least_below}
use Rattle.laws.specs.SearchLaws.{if-or, clash, and_left, and_right}
use Rattle.laws.specs.LeastLaws.{least_none, least_is, none_fails, some_least}
use Rattle.laws.specs.FoldLaws.{count_same, count_none, count_some, count_limit, count_split}
use Rattle.jobset.specs.declared.JobSet.{JobSet}
use Rattle.jobset.specs.JobSet.{bit, has_job, size_of, lowest_of, next_of}
use Rattle.jobset.specs.Bits.{bit_shifted, bit_zero, bit_outside, clear_from, ones_count, trailing_clear, trailing_lowest}
use Rattle.jobset.specs.JobSetLaws.{has_low, has_high, has_beyond}

-- The lowest is in the set and no job before it is, and there is none exactly for an empty set.

pub lowest_has : (set : JobSet) (j : ℕ) → lowest_of set ≡ Some j → has_job set j ≡ true
unfolding lowest_of
lowest_has set j e = (some_least 128 j (has_job set) e).holds

pub lowest_first : (set : JobSet) (j i : ℕ) → lowest_of set ≡ Some j → i < j → has_job set i ≡ false
unfolding lowest_of
lowest_first set j i e h = (some_least 128 j (has_job set) e).before i h

pub lowest_none : (set : JobSet) → lowest_of set ≡ None → (i : ℕ) → has_job set i ≡ false
unfolding lowest_of
lowest_none set e i =
    if-or (ltb i 128)
    (λ t. none_fails 128 (has_job set) e i (ltb-true i 128 t))
    (λ f. has_beyond set i (ltb-false i 128 f))

pub none_lowest : (set : JobSet) → ((i : ℕ) → has_job set i ≡ false) → lowest_of set ≡ None
unfolding lowest_of
none_lowest set f = least_none 128 (has_job set) (λ i l. f i)

-- The size is 0 exactly for an empty set, and fits a byte.

pub size_none : (set : JobSet) → ((i : ℕ) → has_job set i ≡ false) → size_of set ≡ 0
unfolding size_of
size_none set f = count_none 128 (has_job set) (λ i l. f i)

pub size_some : (set : JobSet) (i : ℕ) → has_job set i ≡ true → 0 < size_of set
unfolding size_of
size_some set i t =
    if-or (ltb i 128)
    (λ l. count_some 128 i (has_job set) (ltb-true i 128 l) t)
    (λ f. clash t (has_beyond set i (ltb-false i 128 f)))

pub size_limit : (set : JobSet) → size_of set ≤ 128
unfolding size_of
size_limit set = count_limit 128 (has_job set)

-- The ones of both words.
pub size_words : (set : JobSet) → set.low < 2 ^ 64 → set.high < 2 ^ 64 → ones set.low + ones set.high ≡ size_of set
unfolding size_of
size_words set h l =
    ap₂ (λ (x y : ℕ). x + y)
    (ones_count 64 set.low h ∙ count_same 64 (bit set.low) (has_job set) (λ i k. sym (has_low set i k)))
    (ones_count 64 set.high l ∙ count_same 64 (bit set.high) (λ i. has_job set (64 + i)) (λ i k. sym (has_high set i k)))
    ∙ sym (count_split 64 64 (has_job set))

-- The least job from job j on. From job 0 on it is the lowest.

pub next_first : (set : JobSet) → next_of set 0 ≡ lowest_of set
unfolding next_of lowest_of
next_first set = λ k. least_below 128 (λ i. (ap (λ (t : Bool). t && has_job set i) (leb-zero i)) k)

pub next_has : (set : JobSet) (j k : ℕ) → next_of set j ≡ Some k → (j ≤ k) × (k < 128) × (has_job set k ≡ true)
unfolding next_of
next_has set j k e =
    let l = some_least 128 k (λ i. leb j i && has_job set i) e in
    (leb-true j k (and_left (leb j k) (has_job set k) l.holds), l.below, and_right (leb j k) (has_job set k) l.holds)

pub next_gap : (set : JobSet) (j k i : ℕ) → next_of set j ≡ Some k → j ≤ i → i < k → has_job set i ≡ false
unfolding next_of
next_gap set j k i e h l = rw (le-leb j i h) at ((some_least 128 k (λ i. leb j i && has_job set i) e).before i l)

pub next_none : (set : JobSet) (j i : ℕ) → next_of set j ≡ None → j ≤ i → has_job set i ≡ false
unfolding next_of
next_none set j i e h =
    if-or (ltb i 128)
    (λ t. rw (le-leb j i h) at (none_fails 128 (λ i. leb j i && has_job set i) e i (ltb-true i 128 t)))
    (λ f. has_beyond set i (ltb-false i 128 f))

none_next : (set : JobSet) (j : ℕ) → ((i : ℕ) → j ≤ i → has_job set i ≡ false) → next_of set j ≡ None
unfolding next_of
none_next set j f =
    least_none 128 (λ i. leb j i && has_job set i)
    (λ i l. if-or (leb j i) (λ t. rw t (f i (leb-true j i t))) (λ e. rw e))

next_is : (set : JobSet) (j k : ℕ) → j ≤ k → has_job set k ≡ true → ((i : ℕ) → j ≤ i → i < k → has_job set i ≡ false)
    → next_of set j ≡ Some k
unfolding next_of
next_is set j k h t gap =
    least_is 128 k (λ i. leb j i && has_job set i)
    (record {
      below = if-or (ltb k 128) (λ l. ltb-true k 128 l) (λ f. clash t (has_beyond set k (ltb-false k 128 f)));
      holds = rw (le-leb j k h) t;
      before = λ i l. if-or (leb j i) (λ s. rw s (gap i (leb-true j i s) l)) (λ e. rw e);
    })

-- Found in a word that is not 0, whose bits are jobs from `first` on, up to its lowest bit at least; no job stands between j and `first`.
word_next : (set : JobSet) (w j first : ℕ) → w < 2 ^ 64 → j ≤ first
    → ((i : ℕ) → j ≤ i → i < first → has_job set i ≡ false)
    → ((i : ℕ) → i ≤ count_trailing_zeros 64 w → has_job set (first + i) ≡ bit w i)
    → eqb w 0 ≡ false → next_of set j ≡ Some (first + count_trailing_zeros 64 w)
word_next set w j first h le gap same f =
    let z = count_trailing_zeros 64 w in
    next_is set j (first + z) (omega arith) (same z (omega arith) ∙ trailing_lowest 64 w h f)
    (λ i a b.
    if-or (ltb i first)
    (λ t. gap i a (ltb-true i first t))
    (λ e.
    let from = ltb-false i first e in
    let place : i ≡ first + (i - first) = omega arith in
    rw place (same (i - first) (omega arith) ∙ trailing_clear 64 w (i - first) (omega arith))))

-- The words as the code asks them: the least job of one whose bit 0 stands for job `first`.
abbrev pub least_in : ℕ → ℕ → Option ℕ
least_in w first = cond (eqb w 0) None (Some (first + count_trailing_zeros 64 w))

-- A word is shifted so that the bit of job j comes first. What a shift leaves fits the word.
left_fits : (w j : ℕ) → w < 2 ^ 64 → w / 2 ^ j < 2 ^ 64
left_fits w j h = omega (arith, shr_le w j)

pub next_low : (set : JobSet) (j : ℕ) → set.low < 2 ^ 64 → eqb (set.low / 2 ^ j) 0 ≡ false
    → least_in (set.low / 2 ^ j) j ≡ next_of set j
next_low set j h f =
    rw f
    (sym
    (word_next set left j j (left_fits set.low j h) (omega arith) (λ i a b. absurd (omega arith))
    (λ i l. has_low set (j + i) (omega (arith, inside)) ∙ sym (bit_shifted set.low j i)) f))
  where
    left : ℕ
    left = set.low / 2 ^ j

    -- its lowest bit is one of the low word
    inside : j + count_trailing_zeros 64 left < 64
    inside =
        let k = j + count_trailing_zeros 64 left in
        if-or (ltb k 64) (λ t. ltb-true k 64 t)
        (λ e.
        clash (sym (bit_shifted set.low j (count_trailing_zeros 64 left)) ∙ trailing_lowest 64 left (left_fits set.low j h) f)
        (bit_outside 64 set.low k h (ltb-false k 64 e)))

-- The high word tells of every job from 64 on.
has_from_64 : (set : JobSet) (i : ℕ) → set.high < 2 ^ 64 → has_job set (64 + i) ≡ bit set.high i
has_from_64 set i h =
    if-or (ltb i 64)
    (λ t. has_high set i (ltb-true i 64 t))
    (λ e.
    has_beyond set (64 + i) (omega (arith, ltb-false i 64 e)) ∙ sym (bit_outside 64 set.high i h (ltb-false i 64 e)))

-- From job 64 + i on it decides, and from an earlier job j on if the set has none from j to 63.
high_next : (set : JobSet) (i j : ℕ) → set.high < 2 ^ 64 → j ≤ 64 + i
    → ((k : ℕ) → j ≤ k → k < 64 + i → has_job set k ≡ false)
    → least_in (set.high / 2 ^ i) (64 + i) ≡ next_of set j
high_next set i j h le gap =
    if-or (eqb left 0)
    (λ e. rw e (sym (none_next set j (λ k a. if-or (ltb k (64 + i)) (λ t. gap k a (ltb-true k (64 + i) t)) (λ f. later e k (ltb-false k (64 + i) f))))))
    (λ f. rw f (sym (word_next set left j (64 + i) (left_fits set.high i h) le gap (λ k l. bits k) f)))
  where
    left : ℕ
    left = set.high / 2 ^ i

    bits : (k : ℕ) → has_job set (64 + i + k) ≡ bit left k
    bits k =
        let sum : 64 + i + k ≡ 64 + (i + k) = omega arith in
        rw sum (has_from_64 set (i + k) h ∙ sym (bit_shifted set.high i k))

    later : eqb left 0 ≡ true → (k : ℕ) → 64 + i ≤ k → has_job set k ≡ false
    later e k a =
        let sum : k ≡ 64 + i + (k - (64 + i)) = omega arith in
        rw sum (bits (k - (64 + i)) ∙ rw (eqb-true left 0 e) (bit_zero (k - (64 + i))))

pub next_past_low : (set : JobSet) (j : ℕ) → set.high < 2 ^ 64 → j < 64 → eqb (set.low / 2 ^ j) 0 ≡ true
    → least_in set.high 64 ≡ next_of set j
next_past_low set j h l e =
    let gap : (k : ℕ) → j ≤ k → k < 64 → has_job set k ≡ false =
    λ k a b. has_low set k b ∙ clear_from set.low j k (ap not e) a in
    rw div-one at (high_next set 0 j h (omega arith) gap)

-- As the code asks them: the low word from job j on, and then the high word.
pub next_words : (set : JobSet) (j : ℕ) → set.low < 2 ^ 64 → set.high < 2 ^ 64 → j < 64
    → option_or (least_in (set.low / 2 ^ j) j) (least_in set.high 64) ≡ next_of set j
next_words set j h l b =
    if-or (eqb (set.low / 2 ^ j) 0)
    (λ e. rw e (next_past_low set j l b e))
    (λ f. rw f (rw f at (next_low set j h f)))

pub next_high : (set : JobSet) (j : ℕ) → set.high < 2 ^ 64 → 64 ≤ j → least_in (set.high / 2 ^ (j - 64)) j ≡ next_of set j
next_high set j h l =
    let sum : 64 + (j - 64) ≡ j = omega arith in
    rw sum at (high_next set (j - 64) j h (omega arith) (λ k a b. absurd (omega arith)))

pub next_beyond : (set : JobSet) (j : ℕ) → 128 ≤ j → next_of set j ≡ None
next_beyond set j h = none_next set j (λ i a. has_beyond set i (omega arith))

-- What the code counts and finds.
pub ruleset sizing = (size_words, size_limit)

pub ruleset next_found = (next_words, next_high, next_beyond)
