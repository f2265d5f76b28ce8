-- Laws of folds, maxima, counts and columns.
use Prim.Native.Nat.{ℕ, zero, suc, ◌+◌, ◌-◌, ◌<◌, ◌≤◌, max, min}
use Rattle.std.proofs.Common.{arith, add-one, add-zero, add-suc, eq-or-lt_of_le, ⊎_elim, append_assoc, sym, ap, ◌∙◌, length-append, length-set, drop_at, drop-cons, drop-set-lt, get_or-set_same, get_or-set_other, eqb-true}
use Rattle.std.proofs.Math.Nat.{sub-zero, suc-sub-suc}
use Rattle.std.specs.Prelude.{◌≢◌, Bool, ◌&&◌, ◌||◌, List, [], ◌∷◌, ◌≡◌, length, get_or, set, drop, replicate}
use Rattle.std.proofs.Math.Bool.{true, false, cond}
use Rattle.std.proofs.Math.Path.{refl}
use Rattle.std.proofs.Math.Dec.{eqb}
use Rattle.std.proofs.lemmas.List.{length-replicate, set_at, get_or_at}
use Rattle.std.proofs.Math.ListN.{get_or-append}
use Rattle.std.proofs.lemmas.Bool.{eqb-false}
use Rattle.laws.specs.Search.{any_below}
use Rattle.laws.specs.SearchLaws.{if-or}
use Rattle.laws.specs.Fold.{fold_below, max_below, flag, count_below, up_to, column}

pub fold_none : {A : Type 0} (f : ℕ → A → A) (a : A) → fold_below 0 f a ≡ a
unfolding fold_below
fold_none f a = refl

pub fold_more : {A : Type 0} (n : ℕ) (f : ℕ → A → A) (a : A) → fold_below (n + 1) f a ≡ f n (fold_below n f a)
unfolding fold_below
fold_more n f a = rw add-one

-- The same changes, made one after the other.
pub fold_same : {A : Type 0} (n : ℕ) (f g : ℕ → A → A) → ((i : ℕ) (a : A) → f i a ≡ g i a)
    → (a : A) → fold_below n f a ≡ fold_below n g a
unfolding fold_below
fold_same zero f g h a = refl
fold_same (suc n) f g h a = h n (fold_below n f a) ∙ ap (g n) (fold_same n f g h a)

-- What every change keeps, the fold keeps.
pub fold_keeps : {A B : Type 0} (n : ℕ) (f : ℕ → A → A) (g : A → B)
    → ((i : ℕ) (a : A) → g (f i a) ≡ g a) → (a : A) → g (fold_below n f a) ≡ g a
unfolding fold_below
fold_keeps zero f g h a = refl
fold_keeps (suc n) f g h a = h n (fold_below n f a) ∙ fold_keeps n f g h a

pub max_none : (f : ℕ → ℕ) → max_below 0 f ≡ 0
unfolding max_below
max_none f = refl

pub max_more : (n : ℕ) (f : ℕ → ℕ) → max_below (n + 1) f ≡ max (f n) (max_below n f)
unfolding max_below
max_more n f = rw add-one

pub max_same : (n : ℕ) (f g : ℕ → ℕ) → ((i : ℕ) → i < n → f i ≡ g i) → max_below n f ≡ max_below n g
unfolding max_below
max_same zero f g h = refl
max_same (suc n) f g h = rw (h n (omega arith), max_same n f g (λ i l. h i (omega arith)))

-- The largest of tests is whether one of them holds.
pub max_flags : (n : ℕ) (p : ℕ → Bool) → max_below n (λ i. flag (p i)) ≡ flag (any_below n p)
unfolding max_below any_below
max_flags zero p = refl
max_flags (suc n) p = rw (max_flags n p) (cases (p n) (any_below n p))
  where
    cases : (s t : Bool) → max (flag s) (flag t) ≡ flag (s || t)
    cases true true = refl
    cases true false = refl
    cases false true = refl
    cases false false = refl

-- A test as a number is at most 1.
pub flag_limit : (t : Bool) → flag t ≤ 1
flag_limit true = omega arith
flag_limit false = omega arith

pub count_more : (n : ℕ) (p : ℕ → Bool) → count_below (n + 1) p ≡ count_below n p + flag (p n)
unfolding count_below
count_more n p = rw add-one (omega arith)

pub count_limit : (n : ℕ) (p : ℕ → Bool) → count_below n p ≤ n
unfolding count_below
count_limit zero p = omega arith
count_limit (suc n) p = omega (arith, flag_limit (p n), count_limit n p)

pub count_same : (n : ℕ) (p q : ℕ → Bool) → ((i : ℕ) → i < n → p i ≡ q i) → count_below n p ≡ count_below n q
unfolding count_below
count_same zero p q h = refl
count_same (suc n) p q h = rw (h n (omega arith), count_same n p q (λ i l. h i (omega arith)))

-- None counts exactly where each number fails.
pub count_none : (n : ℕ) (p : ℕ → Bool) → ((i : ℕ) → i < n → p i ≡ false) → count_below n p ≡ 0
unfolding count_below
count_none zero p h = refl
count_none (suc n) p h = rw (h n (omega arith), count_none n p (λ i l. h i (omega arith)))

pub count_some : (n i : ℕ) (p : ℕ → Bool) → i < n → p i ≡ true → 0 < count_below n p
unfolding count_below
count_some zero i p h t = absurd (omega arith)
count_some (suc n) i p h t =
    let le : i ≤ n = omega arith in
    ⊎_elim (λ (e : i ≡ n). rw (← e, t) (omega arith)) (λ (l : i < n). omega (arith, count_some n i p l t)) (eq-or-lt_of_le le)

-- The numbers below n, and those from n on.
pub count_split : (n m : ℕ) (p : ℕ → Bool) → count_below (n + m) p ≡ count_below n p + count_below m (λ i. p (n + i))
unfolding count_below
count_split n zero p = rw (add-zero n) (omega arith)
count_split n (suc m) p = rw (add-suc n m, count_split n m p) (omega arith)

-- Where each number that satisfies p satisfies just one of three tests, and each other number none of them, the three counts
-- together are p's.
pub count_parts : (n : ℕ) (p q r s : ℕ → Bool)
    → ((i : ℕ) → i < n → flag (p i) ≡ flag (q i) + flag (r i) + flag (s i))
    → count_below n p ≡ count_below n q + count_below n r + count_below n s
unfolding count_below
count_parts zero p q r s h = refl
count_parts (suc n) p q r s h =
    omega (arith, h n (omega arith), count_parts n p q r s (λ i l. h i (omega arith)))

pub length_up_to : {A : Type 0} (n : ℕ) (f : ℕ → A) → length (up_to n f) ≡ n
unfolding up_to
length_up_to zero f = refl
length_up_to (suc n) f = length-append (up_to n f) (f n ∷ []) ∙ rw (length_up_to n f) (add-one n)

pub up_to_at : {A : Type 0} (n j : ℕ) (f : ℕ → A) (z : A) → j < n → get_or (up_to n f) j z ≡ f j
unfolding up_to
up_to_at zero j f z h = absurd (omega arith)
up_to_at (suc n) j f z h =
    let le : j ≤ n = omega arith in
    ⊎_elim (λ (e : j ≡ n). rw e (get_or_at (up_to n f) (f n) [] z n (length_up_to n f)))
    (λ (l : j < n). get_or-append (up_to n f) (f n ∷ []) z j (rw (length_up_to n f) l) ∙ up_to_at n j f z l)
    (eq-or-lt_of_le le)

pub column_at : {A : Type 0} (size n j : ℕ) (f : ℕ → A) (z d : A) → j < n → j < size → get_or (column size n f z) j d ≡ f j
unfolding column
column_at size n j f z d h k =
    let low : j < min n size = omega arith in
    get_or-append (up_to (min n size) f) (replicate (size - n) z) d j (rw (length_up_to (min n size) f) low)
    ∙ up_to_at (min n size) j f d low

pub length_column : {A : Type 0} (size n : ℕ) (f : ℕ → A) (z : A) → length (column size n f z) ≡ size
unfolding column
length_column size n f z =
    length-append (up_to (min n size) f) (replicate (size - n) z)
    ∙ rw (length_up_to (min n size) f, length-replicate (size - n) z) (omega arith)

-- More places than the array has are as many as it has.
pub column_min : {A : Type 0} (size n : ℕ) (f : ℕ → A) (z : A) → column size (min n size) f z ≡ column size n f z
unfolding column
column_min size n f z =
    let front : min (min n size) size ≡ min n size = omega arith in
    let rest : size - min n size ≡ size - n = omega arith in
    rw (front, rest)

-- A loop that fills the array from its first place on: the blank array, one more value, the whole.

pub column_none : {A : Type 0} (size : ℕ) (f : ℕ → A) (z : A) → replicate size z ≡ column size 0 f z
unfolding column up_to
column_none size f z =
    let e : min 0 size ≡ 0 = omega arith in
    rw (e, sub-zero)

replicate_next : {A : Type 0} (m i : ℕ) (z : A) → i < m → replicate (m - i) z ≡ z ∷ replicate (m - (i + 1)) z
replicate_next m i z h =
    let e : m - i ≡ suc (m - (i + 1)) = omega arith in
    rw e

pub column_more : {A : Type 0} (size i : ℕ) (f : ℕ → A) (z : A) → i < size
    → set (column size i f z) i (f i) ≡ column size (i + 1) f z
unfolding column up_to
column_more size i f z h =
    let here : min i size ≡ i = omega arith in
    let next : min (i + 1) size ≡ suc i = omega arith in
    rw (
      here,
      next,
      replicate_next size i z h,
      set_at (up_to i f) z (replicate (size - (i + 1)) z) (f i) i (length_up_to i f),
    )
    (sym (append_assoc (up_to i f) (f i ∷ []) (replicate (size - (i + 1)) z)))

-- A loop that fills it from its last place back: what the array holds from place k on.

drop_replicate : {A : Type 0} (m n : ℕ) (z : A) → n ≤ m → drop n (replicate m z) ≡ replicate (m - n) z
drop_replicate m zero z h = rw sub-zero
drop_replicate zero (suc n) z h = absurd (omega arith)
drop_replicate (suc m) (suc n) z h = drop_replicate m n z (omega arith) ∙ rw suc-sub-suc

pub back_none : {A : Type 0} (size n : ℕ) (f : ℕ → A) (z : A)
    → drop (min n size) (replicate size z) ≡ drop (min n size) (column size n f z)
unfolding column
back_none size n f z =
    let e : size - min n size ≡ size - n = omega arith in
    drop_replicate size (min n size) z (omega arith)
    ∙ rw e (sym (drop_at (up_to (min n size) f) (replicate (size - n) z) (min n size) (length_up_to (min n size) f)))

pub back_more : {A : Type 0} (out target : List A) (j : ℕ) (a z : A) → j < length out → length out ≡ length target
    → drop (suc j) out ≡ drop (suc j) target → a ≡ get_or target j z → drop j (set out j a) ≡ drop j target
back_more out target j a z h k e f =
    rw (
      drop-cons (set out j a) j z (simp length-set h),
      get_or-set_same out j a z h,
      drop-set-lt (suc j) out j a (omega arith),
      e,
      f,
      drop-cons target j z (omega arith),
    )

-- A table changed at some of its places, one after the other: for each i that satisfies p, by f at place i.

abbrev pub change_at : (ℕ → Bool) → (ℕ → ℕ) → (ℕ → ℕ) → ℕ → List ℕ → List ℕ
change_at p place f i table = cond (p i) (set table (place i) (f (get_or table (place i) 0))) table

module _ (p : ℕ → Bool) (place f : ℕ → ℕ) where
  change_long : (i : ℕ) (table : List ℕ) → length (change_at p place f i table) ≡ length table
  change_long i table = cases (p i)
    where
      cases : (t : Bool) → length (cond t (set table (place i) (f (get_or table (place i) 0))) table) ≡ length table
      cases true = length-set table (place i) (f (get_or table (place i) 0))
      cases false = refl

  pub changed_long : (n : ℕ) (table : List ℕ) → length (fold_below n (change_at p place f) table) ≡ length table
  changed_long n table = fold_keeps n (change_at p place f) length change_long table

  change_get : (i : ℕ) (table : List ℕ) (x : ℕ) → x < length table
      → get_or (change_at p place f i table) x 0 ≡ cond (p i && eqb x (place i)) (f (get_or table x 0)) (get_or table x 0)
  change_get i table x h =
      if-or (eqb x (place i))
      (λ t. rw (t, ← eqb-true x (place i) t) (here (p i)))
      (λ e. rw e (there (eqb-false x (place i) e) (p i)))
    where
      here : (t : Bool) → get_or (cond t (set table x (f (get_or table x 0))) table) x 0 ≡ cond (t && true) (f (get_or table x 0)) (get_or table x 0)
      here true = get_or-set_same table x (f (get_or table x 0)) 0 h
      here false = refl

      there : x ≢ place i → (t : Bool)
          → get_or (cond t (set table (place i) (f (get_or table (place i) 0))) table) x 0
          ≡ cond (t && false) (f (get_or table x 0)) (get_or table x 0)
      there n true = get_or-set_other table (place i) x (f (get_or table (place i) 0)) 0 n
      there n false = refl

  -- What stands at x then, where a second change by f changes nothing more.
  pub changed_get : ((v : ℕ) → f (f v) ≡ f v) → (n : ℕ) (table : List ℕ) (x : ℕ) → x < length table
      → get_or (fold_below n (change_at p place f) table) x 0
      ≡ cond (any_below n (λ i. p i && eqb x (place i))) (f (get_or table x 0)) (get_or table x 0)
  unfolding fold_below any_below
  changed_get again zero table x h = refl
  changed_get again (suc n) table x h =
      change_get n (fold_below n (change_at p place f) table) x (rw (changed_long n table) h)
      ∙ rw (changed_get again n table x h)
      (cases (p n && eqb x (place n)) (any_below n (λ i. p i && eqb x (place i))) (get_or table x 0))
    where
      cases : (s t : Bool) (v : ℕ) → cond s (f (cond t (f v) v)) (cond t (f v) v) ≡ cond (s || t) (f v) v
      cases true true v = again v
      cases true false v = refl
      cases false t v = refl

-- Four values one after the other are a fold, or a maximum, below 4.

pub fold_four : {A : Type 0} (f : ℕ → A → A) (a : A) → fold_below 4 f a ≡ f 3 (f 2 (f 1 (f 0 a)))
unfolding fold_below
fold_four f a = refl

pub max_four : (f : ℕ → ℕ) → max (f 3) (max (f 2) (max (f 1) (f 0))) ≡ max_below 4 f
unfolding max_below
max_four f =
    let e : max (f 0) 0 ≡ f 0 = omega arith in
    rw e
