-- Whether a job is refused, told by its kind: a kind other than 0 has 1, 2 or 3 accesses of known modes.
use Rattle.std.specs.Prelude.{ℕ, cond, Option, Some, None, zero, suc, ◌<◌, ◌≤◌, Bool, not, ◌&&◌, ◌||◌, ◌≡◌, [], ◌∷◌, eqb, leb, ltb, length, get_or}
use Rattle.std.proofs.Common.{arith, sym, ap, ◌∙◌, eqb-true, le-ltb}
use Rattle.std.proofs.Math.Bool.{true, false}
use Rattle.std.proofs.Math.Path.{refl}
use Rattle.std.proofs.Math.ListN.{get_or-eq_default}
use Rattle.laws.specs.Search.{any_below}
use Rattle.laws.specs.SearchLaws.{if-or, or_true}
use Rattle.laws.specs.Refusal.{when, first_of}
use Rattle.dependence.specs.declared.Access.{Access}
use Rattle.dependence.specs.declared.Job.{Job}
use Rattle.dependence.specs.Job.{access_at, any_access}
use Rattle.admission.specs.Admission.{cell_outside, mode_outside, cell_before, cell_twice, modes_by_kind, kind_modes, kind_fits, first_modes, job_refusal}
use Rattle.admission.specs.declared.Shape.{Shape}

-- The access has another mode than m, or a cell that is not one of the first n.
abbrev pub access_out : Access → ℕ → ℕ → Bool
access_out access n m = not (eqb access.mode m) || leb n access.cell

-- What a kind asks of its jobs, where it does: not kind 0, and no kind that there is not.
abbrev pub shape_of : ℕ → Option Shape
shape_of kind =
    cond (eqb (length (kind_modes kind)) 0) None
    (Some (record { count = length (kind_modes kind); first = get_or (kind_modes kind) 0 0; second = get_or (kind_modes kind) 1 0 }))

-- The job has as many accesses as the shape, of the same modes.
unfoldable pub has_shape : Job → Shape → Bool
has_shape job shape =
    eqb job.arity shape.count
    && (eqb (access_at job 0).mode shape.first
    && ((ltb shape.count 2 || eqb (access_at job 1).mode shape.second) && (ltb shape.count 3 || eqb (access_at job 2).mode 0)))

-- The job has another number of accesses, an access that is out, or a cell twice: as far as the shape has accesses.
unfoldable pub shape_refused : Job → ℕ → Shape → Bool
shape_refused job n shape =
    not (eqb job.arity shape.count)
    || (access_out (access_at job 0) n shape.first
    || (not (eqb shape.count 1)
    && (access_out (access_at job 1) n shape.second
    || (cell_before job 1 0
    || (not (eqb shape.count 2) && (access_out (access_at job 2) n 0 || (cell_before job 2 0 || cell_before job 2 1)))))))

-- A kind that there is not has no modes listed.
pub no_modes : (kind : ℕ) → 6 < kind → kind_modes kind ≡ []
no_modes kind h = get_or-eq_default modes_by_kind [] h

-- A refusal is one of its tests.
one_of : (a b c d e f : Bool)
    → not (eqb (first_of (when a 4 ∷ when b 4 ∷ when c 5 ∷ when d 6 ∷ when e 7 ∷ when f 8 ∷ [])) 0) ≡ (a || (b || (c || (d || (e || f)))))
unfolding first_of
one_of true b c d e f = refl
one_of false true c d e f = refl
one_of false false true d e f = refl
one_of false false false true e f = refl
one_of false false false false true f = refl
one_of false false false false false true = refl
one_of false false false false false false = refl

-- The last of the tests holds.
fourth : (a b c : Bool) → (a || (b || (c || true))) ≡ true
fourth a b c = or_true a (b || (c || true)) (or_true b (c || true) (or_true c true refl))

sixth : (a b c d e : Bool) → (a || (b || (c || (d || (e || true))))) ≡ true
sixth a b c d e = or_true a (b || (c || (d || (e || true)))) (or_true b (c || (d || (e || true))) (fourth c d e))

-- A mode that is the one listed is a mode.
mode_in : (x m : ℕ) → m ≤ 2 → eqb x m ≡ true → ltb 3 x ≡ false
mode_in x m h e = let q = eqb-true x m e in le-ltb 3 x (omega arith)

-- The kind's number of accesses is not the job's.
another_arity : (job : Job) (n : ℕ)
    → (eqb job.arity 0 || (ltb 4 job.arity || (any_access job (cell_outside n) || (any_access job mode_outside || (cell_twice job || true))))) ≡ true
another_arity job n =
    sixth (eqb job.arity 0) (ltb 4 job.arity) (any_access job (cell_outside n)) (any_access job mode_outside) (cell_twice job)

-- Of places whose modes are those listed, only the cells are left to test: c, d and e say of a place that its cell is outside,
-- that its mode is outside, and that its mode is the one listed; r that two cells are the same.

one_place : (c d e : Bool) → (e ≡ true → d ≡ false)
    → ((c || false) || ((d || false) || not (not (not e || false)))) ≡ (not e || c)
one_place true d true h = refl
one_place false d true h = rw (h refl)
one_place c d false h = fourth (c || false) (d || false) false

two_places : (c₀ c₁ d₀ d₁ e₀ e₁ r : Bool) → (e₀ ≡ true → d₀ ≡ false) → (e₁ ≡ true → d₁ ≡ false)
    → ((c₁ || (c₀ || false)) || ((d₁ || (d₀ || false)) || (((r || false) || false) || not (not (not e₁ || (not e₀ || false))))))
    ≡ ((not e₀ || c₀) || ((not e₁ || c₁) || r))
two_places c₀ c₁ d₀ d₁ false true r h k = fourth (c₁ || (c₀ || false)) (d₁ || (d₀ || false)) ((r || false) || false)
two_places c₀ c₁ d₀ d₁ false false r h k = fourth (c₁ || (c₀ || false)) (d₁ || (d₀ || false)) ((r || false) || false)
two_places c₀ c₁ d₀ d₁ true false r h k =
    fourth (c₁ || (c₀ || false)) (d₁ || (d₀ || false)) ((r || false) || false) ∙ sym (or_true c₀ true refl)
two_places true true d₀ d₁ true true r h k = refl
two_places true false d₀ d₁ true true r h k = refl
two_places false true d₀ d₁ true true r h k = refl
two_places false false d₀ d₁ true true true h k = rw (h refl, k refl)
two_places false false d₀ d₁ true true false h k = rw (h refl, k refl)

three_cells : (c₀ c₁ c₂ r₀₁ r₀₂ r₁₂ : Bool)
    → ((c₂ || (c₁ || (c₀ || false))) || (((r₁₂ || (r₀₂ || false)) || ((r₀₁ || false) || false)) || false)) ≡ (c₀ || (c₁ || (c₂ || (r₀₁ || (r₀₂ || r₁₂)))))
three_cells true true true r₀₁ r₀₂ r₁₂ = refl
three_cells true true false r₀₁ r₀₂ r₁₂ = refl
three_cells true false true r₀₁ r₀₂ r₁₂ = refl
three_cells true false false r₀₁ r₀₂ r₁₂ = refl
three_cells false true true r₀₁ r₀₂ r₁₂ = refl
three_cells false true false r₀₁ r₀₂ r₁₂ = refl
three_cells false false true r₀₁ r₀₂ r₁₂ = refl
three_cells false false false true true true = refl
three_cells false false false true true false = refl
three_cells false false false true false true = refl
three_cells false false false true false false = refl
three_cells false false false false true true = refl
three_cells false false false false true false = refl
three_cells false false false false false true = refl
three_cells false false false false false false = refl

three_places : (c₀ c₁ c₂ d₀ d₁ d₂ e₀ e₁ e₂ r₀₁ r₀₂ r₁₂ : Bool) → (e₀ ≡ true → d₀ ≡ false) → (e₁ ≡ true → d₁ ≡ false) → (e₂ ≡ true → d₂ ≡ false)
    → ((c₂ || (c₁ || (c₀ || false))) || ((d₂ || (d₁ || (d₀ || false))) || (((r₁₂ || (r₀₂ || false)) || ((r₀₁ || false) || false)) || not (not (not e₂ || (not e₁ || (not e₀ || false)))))))
    ≡ ((not e₀ || c₀) || ((not e₁ || c₁) || ((not e₂ || c₂) || (r₀₁ || (r₀₂ || r₁₂)))))
three_places c₀ c₁ c₂ d₀ d₁ d₂ e₀ e₁ e₂ r₀₁ r₀₂ r₁₂ h k l = cases e₀ e₁ e₂ h k l
  where
    cells : Bool
    cells = c₂ || (c₁ || (c₀ || false))

    modes : Bool
    modes = d₂ || (d₁ || (d₀ || false))

    twice : Bool
    twice = (r₁₂ || (r₀₂ || false)) || ((r₀₁ || false) || false)

    cases : (e₀ e₁ e₂ : Bool) → (e₀ ≡ true → d₀ ≡ false) → (e₁ ≡ true → d₁ ≡ false) → (e₂ ≡ true → d₂ ≡ false)
        → (cells || (modes || (twice || not (not (not e₂ || (not e₁ || (not e₀ || false)))))))
        ≡ ((not e₀ || c₀) || ((not e₁ || c₁) || ((not e₂ || c₂) || (r₀₁ || (r₀₂ || r₁₂)))))
    cases true true true h k l = rw (h refl, k refl, l refl) (three_cells c₀ c₁ c₂ r₀₁ r₀₂ r₁₂)
    cases true true false h k l = fourth cells modes twice ∙ sym (or_true c₀ (c₁ || true) (or_true c₁ true refl))
    cases true false true h k l = fourth cells modes twice ∙ sym (or_true c₀ true refl)
    cases true false false h k l = fourth cells modes twice ∙ sym (or_true c₀ true refl)
    cases false true true h k l = fourth cells modes twice
    cases false true false h k l = fourth cells modes twice
    cases false false true h k l = fourth cells modes twice
    cases false false false h k l = fourth cells modes twice

-- A kind's jobs are refused as its number of accesses and their modes say.
module _ (job : Job) (n : ℕ) where
  abbrev Refused : Bool
  Refused = not (eqb (job_refusal job n) 0)

  abbrev place : ℕ → Access
  place i = access_at job i

  abbrev other : ℕ → Bool
  other count = not (eqb job.arity count)

  abbrev out : ℕ → ℕ → Bool
  out i mode = access_out (place i) n mode

  one_law : (m₀ : ℕ) → m₀ ≤ 2 → kind_fits job ≡ first_modes job 1 (m₀ ∷ []) → Refused ≡ (other 1 || out 0 m₀)
  unfolding job_refusal any_below
  one_law m₀ h₀ fits =
      one_of _ _ _ _ _ _
      ∙ rw fits
      (if-or (eqb job.arity 1)
      (λ t. rw (eqb-true job.arity 1 t) (one_place _ _ _ (mode_in (place 0).mode m₀ h₀)))
      (λ f. rw f (another_arity job n)))

  two_law : (m₀ m₁ : ℕ) → m₀ ≤ 2 → m₁ ≤ 2 → kind_fits job ≡ first_modes job 2 (m₀ ∷ m₁ ∷ []) → Refused ≡ (other 2 || (out 0 m₀ || (out 1 m₁ || cell_before job 1 0)))
  unfolding job_refusal any_below
  two_law m₀ m₁ h₀ h₁ fits =
      one_of _ _ _ _ _ _
      ∙ rw fits
      (if-or (eqb job.arity 2)
      (λ t.
      rw (eqb-true job.arity 2 t)
      (two_places (leb n (place 0).cell) (leb n (place 1).cell) (ltb 3 (place 0).mode) (ltb 3 (place 1).mode)
      (eqb (place 0).mode m₀) (eqb (place 1).mode m₁) (cell_before job 1 0)
      (mode_in (place 0).mode m₀ h₀) (mode_in (place 1).mode m₁ h₁)))
      (λ f. rw f (another_arity job n)))

  three_law : (m₀ m₁ m₂ : ℕ) → m₀ ≤ 2 → m₁ ≤ 2 → m₂ ≤ 2 → kind_fits job ≡ first_modes job 3 (m₀ ∷ m₁ ∷ m₂ ∷ [])
      → Refused ≡ (other 3 || (out 0 m₀ || (out 1 m₁ || (out 2 m₂ || (cell_before job 1 0 || (cell_before job 2 0 || cell_before job 2 1))))))
  unfolding job_refusal any_below
  three_law m₀ m₁ m₂ h₀ h₁ h₂ fits =
      one_of _ _ _ _ _ _
      ∙ rw fits
      (if-or (eqb job.arity 3)
      (λ t.
      rw (eqb-true job.arity 3 t)
      (three_places (leb n (place 0).cell) (leb n (place 1).cell) (leb n (place 2).cell)
      (ltb 3 (place 0).mode) (ltb 3 (place 1).mode) (ltb 3 (place 2).mode)
      (eqb (place 0).mode m₀) (eqb (place 1).mode m₁) (eqb (place 2).mode m₂)
      (cell_before job 1 0) (cell_before job 2 0) (cell_before job 2 1)
      (mode_in (place 0).mode m₀ h₀) (mode_in (place 1).mode m₁ h₁) (mode_in (place 2).mode m₂ h₂)))
      (λ f. rw f (another_arity job n)))

  -- So the shape that the kind asks for tells it.
  pub shape_law : (shape : Shape) → shape_of job.kind ≡ Some shape → Refused ≡ shape_refused job n shape
  unfolding shape_refused
  shape_law shape told = cases job.kind refl told
    where
      none : (a b : Bool) → (a || (b || false)) ≡ (a || b)
      none true b = refl
      none false true = refl
      none false false = refl

      later : (r o z : Bool) → (o || (r || z)) ≡ (r || (o || z))
      later true true z = refl
      later true false z = refl
      later false true z = refl
      later false false z = refl

      asked : {a b : Shape} → Some a ≡ Some b → Refused ≡ shape_refused job n a → Refused ≡ shape_refused job n b
      asked {a} {b} e law = let same : a ≡ b = cc in law ∙ ap (shape_refused job n) same

      cases : (kind : ℕ) → job.kind ≡ kind → shape_of kind ≡ Some shape → Refused ≡ shape_refused job n shape
      cases zero e told = cc
      cases (suc zero) e told = asked told (one_law 1 (omega arith) (rw e) ∙ sym (none (other 1) (out 0 1)))
      cases (suc (suc zero)) e told = asked told (one_law 1 (omega arith) (rw e) ∙ sym (none (other 1) (out 0 1)))
      cases (suc (suc (suc zero))) e told =
          asked told (two_law 2 0 (omega arith) (omega arith) (rw e) ∙ sym (ap (λ (x : Bool). other 2 || (out 0 2 || x)) (none (out 1 0) (cell_before job 1 0))))
      cases (suc (suc (suc (suc zero)))) e told = asked told (one_law 2 (omega arith) (rw e) ∙ sym (none (other 1) (out 0 2)))
      cases (suc (suc (suc (suc (suc zero))))) e told =
          asked told
          (three_law 1 0 0 (omega arith) (omega arith) (omega arith) (rw e)
          ∙ ap (λ (x : Bool). other 3 || (out 0 1 || (out 1 0 || x))) (later (cell_before job 1 0) (out 2 0) (cell_before job 2 0 || cell_before job 2 1)))
      cases (suc (suc (suc (suc (suc (suc zero)))))) e told =
          asked told (two_law 2 2 (omega arith) (omega arith) (rw e) ∙ sym (ap (λ (x : Bool). other 2 || (out 0 2 || x)) (none (out 1 2) (cell_before job 1 0))))
      cases (suc (suc (suc (suc (suc (suc (suc kind))))))) e told = cc

-- And whether the job's modes are the kind's.
module _ (job : Job) where
  abbrev at : ℕ → ℕ → Bool
  at i mode = eqb (access_at job i).mode mode

  one_fits : (a s : Bool) → (a && not (not s || false)) ≡ (a && (s && true))
  one_fits true true = refl
  one_fits true false = refl
  one_fits false s = refl

  two_fit : (a s t : Bool) → (a && not (not t || (not s || false))) ≡ (a && (s && (t && true)))
  two_fit true true true = refl
  two_fit true true false = refl
  two_fit true false true = refl
  two_fit true false false = refl
  two_fit false s t = refl

  three_fit : (a s t u : Bool) → (a && not (not u || (not t || (not s || false)))) ≡ (a && (s && (t && u)))
  three_fit true true true true = refl
  three_fit true true true false = refl
  three_fit true true false true = refl
  three_fit true true false false = refl
  three_fit true false true true = refl
  three_fit true false true false = refl
  three_fit true false false true = refl
  three_fit true false false false = refl
  three_fit false s t u = refl

  pub fits_law : (shape : Shape) → shape_of job.kind ≡ Some shape → kind_fits job ≡ has_shape job shape
  unfolding has_shape any_below
  fits_law shape told = cases job.kind refl told
    where
      asked : {a b : Shape} → Some a ≡ Some b → kind_fits job ≡ has_shape job a → kind_fits job ≡ has_shape job b
      asked {a} {b} e law = let same : a ≡ b = cc in law ∙ ap (has_shape job) same

      cases : (kind : ℕ) → job.kind ≡ kind → shape_of kind ≡ Some shape → kind_fits job ≡ has_shape job shape
      cases zero e told = cc
      cases (suc zero) e told = asked told (rw e (one_fits (eqb job.arity 1) (at 0 1)))
      cases (suc (suc zero)) e told = asked told (rw e (one_fits (eqb job.arity 1) (at 0 1)))
      cases (suc (suc (suc zero))) e told = asked told (rw e (two_fit (eqb job.arity 2) (at 0 2) (at 1 0)))
      cases (suc (suc (suc (suc zero)))) e told = asked told (rw e (one_fits (eqb job.arity 1) (at 0 2)))
      cases (suc (suc (suc (suc (suc zero))))) e told = asked told (rw e (three_fit (eqb job.arity 3) (at 0 1) (at 1 0) (at 2 0)))
      cases (suc (suc (suc (suc (suc (suc zero)))))) e told = asked told (rw e (two_fit (eqb job.arity 2) (at 0 2) (at 1 2)))
      cases (suc (suc (suc (suc (suc (suc (suc kind))))))) e told = cc
