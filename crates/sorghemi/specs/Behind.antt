-- Laws of the logic's memory: storing a part of a value that lies behind a reference: a field of a struct, or an
-- element of an array that is a field. The borrow is open, and the struct is one entry of the context, as a value of its type in
-- memory; afterwards the entry is the struct with the part stored. And reading an element of an array in a local.
use Rattle.std.specs.Prelude.{◌≡◌, refl, List, [], ◌∷◌, map, ℕ, zero, suc, ◌+◌, ◌<◌, T, length, get_or, set, Bool, not}
use Rattle.std.proofs.Common.{sym, ◌∙◌, ap, subst, not-suc-le-zero, le_of_suc-le-suc, length-set}
use Rattle.std.proofs.Math.Option.{some}
use Rattle.std.proofs.lemmas.List.{length-map, set-get_or}
use Rattle.std.proofs.Math.ListN.{get_or-map}
use seplogic.Ra.Ura.{Ura}
use base.Fraction.{full_share}
use mir.Syntax.{Ty, ty_array, Opd, Body, skip, seq, cond}
use mir.Val.{Val, vbool, WT, has_ty}
use base.Logic.{SProp, ent, sep, wand, all, via, apply∗, all_e, guard_i}
use base.Fml.{Share, fat, froom, fsep, fdies}
use prog.Memory.{field_at, size}
use prog.Model.{elems}
use prog.Wp.{Env, Calls, Loops, Wp, after_seq}
use types.Logic.{Logic, sem}
use types.Kit.{Goal, Seq, Step, step, Post, post, runs, frees, any_q, fpack, Item, ‵, raw, ◌⊛◌, mean, ⋆, nth, del, put, pull, fill, ◌$◌, ◌∵◌, !, qed, by, move, use0, use1, use2, split, assume, each as for-each, frame, fsplit, fjoin, feq_l, feq_i, done}
use types.Run.{Reads, Writes, first, branches, skips, forget, free1}
use types.Run.{Opd as Evaluates}
use types.Part.{Part, look_in}
use types.Share.{arr_parts}
use denote.RattleType.{RattleType, mirs}
use denote.Shadow.{shadow, makes_shadow}
use denote.Laws.{Is, Typed}
use denote.Memory.{part_at, part_of, cell_at, mem, shares, lone}
use denote.Array.{Array, array_val, each}
use denote.ArrayMemory.{Single, Array-apart, Array-whole}
use denote.Index.{place, others, row, takes, puts}
use denote.Struct.Declared as declared
use denote.Struct.Record.{Record, Propositions, declared}
use denote.Struct.Field.{Field, rows}
use denote.Struct.Struct.{to_tys}
use denote.Struct.Values.{intos}
use denote.Struct.Laws.{FLaws, Lawss, Plain}
use denote.Struct.Loose.{loosens}
use denote.Struct.At.{FieldAt, law_at, get_at, put_at}
use borrow.Table.OneValue.{One, part_in}
use borrow.Rule.Array.Init.{part_room}
use borrow.Struct.Behind.{put_at_lem}

module _ {M : Type 1} {𝓤 : Ura M} (𝓛 : Logic 𝓤) where
  -- In h of R at a lies f of F at c, and with f' there it is h'.
  abbrev pub Within : (R F : RattleType) (h h' : R.Denot) (f f' : F.Denot) (a c : ℕ × ℕ) → Type 1
  Within R F h h' f f' a c =
      ent 𝓤 (sem 𝓛 (part_at R full_share h a.0 a.1))
      (sep 𝓤 (sem 𝓛 (part_at F full_share f c.0 c.1))
      (wand 𝓤 (sem 𝓛 (part_at F full_share f' c.0 c.1)) (sem 𝓛 (part_at R full_share h' a.0 a.1))))

module _ {M : Type 1} {𝓤 : Ura M} (𝓛 : Logic 𝓤) where
  -- An element of an array that lies in h.
  pub element : (R P : RattleType) (n : ℕ) → Single P.mir → (h h' : R.Denot) (xs : List P.Denot) (i : ℕ) (d y : P.Denot) (a c : ℕ × ℕ) → i < n
      → Within 𝓛 R (Array P n) h h' xs (set xs i y) a c → Within 𝓛 R P h h' (get_or xs i d) y a (c.0, place (mem P).size c.1 i)
  element R P n one h h' xs i d y a c i<n w =
      qed 𝓛 (‵ (part_at R full_share h a.0 a.1) ∷ [])
      {P = sep 𝓤 (sem 𝓛 (part_at P full_share (get_or xs i d) c.0 (place (mem P).size c.1 i)))
      (wand 𝓤 (sem 𝓛 (part_at P full_share y c.0 (place (mem P).size c.1 i))) (sem 𝓛 (part_at R full_share h' a.0 a.1)))} (
      use1 𝓛 (‵ (part_at (Array P n) full_share xs c.0 c.1)
      ⊛ raw (wand 𝓤 (sem 𝓛 (part_at (Array P n) full_share (set xs i y) c.0 c.1)) (sem 𝓛 (part_at R full_share h' a.0 a.1)))) w $ split ! $
      use1 𝓛 (‵ ((arr_parts (shares P) n).part full_share xs c.0 c.1)) (Array-apart 𝓛 P full_share one n xs c.0 c.1) $ fsplit ! $ feq_l ! (λ l.
      use1 𝓛 (‵ (part_at P full_share (get_or xs i d) c.0 (place (mem P).size c.1 i)) ⊛ ‵ (others (shares P) full_share xs i c.0 c.1))
      (takes (shares P) full_share 𝓛 xs i d c.0 c.1 (subst (λ (m : ℕ). i < m) (sym l) i<n)) $ split ! $ frame ! $
      assume ! (‵ (part_at P full_share y c.0 (place (mem P).size c.1 i))) $
      use2 𝓛 (‵ (row P full_share (set xs i y) c.0 c.1)) (puts (shares P) full_share 𝓛 xs i y c.0 c.1 (subst (λ (m : ℕ). i < m) (sym l) i<n)) $
      feq_i ! ℕ (length (set xs i y)) n (length-set xs i y ∙ l) $ fjoin ! $
      use1 𝓛 (‵ (part_at (Array P n) full_share (set xs i y) c.0 c.1)) (Array-whole 𝓛 P full_share n (set xs i y) c.0 c.1) $
      use2 𝓛 (‵ (part_at R full_share h' a.0 a.1))
      (apply∗ 𝓤 (sem 𝓛 (part_at (Array P n) full_share (set xs i y) c.0 c.1)) (sem 𝓛 (part_at R full_share h' a.0 a.1))) $ done !))

  -- Field k of a struct, d bytes in: with y there, x is x'.
  pub member : (N : Record) (gp : Propositions N) (L : Lawss N.parts) (k d : ℕ) → One (FieldAt N.parts k).row
      → field_at zero (to_tys (mirs (rows N.parts))) k ≡ some (lone (FieldAt N.parts k).row.mir, d)
      → (x x' : N.D) (y : (FieldAt N.parts k).Value) (a : ℕ × ℕ) → N.as_values x' ≡ put_at N.parts k y (N.as_values x)
      → Within 𝓛 (declared.row (declared N gp)) (FieldAt N.parts k).row x x' ((FieldAt N.parts k).into (get_at N.parts k (N.as_values x)))
      ((FieldAt N.parts k).into y) a (a.0, a.1 + d)
  member N gp L k d one at x x' y a e =
      put_at_lem 𝓛 full_share (declared N gp) (loosens N.parts L) k d one at a x x' (N.as_values x) y refl (ap (intos N.parts) e)

  -- What is stored at a field's type is typed, and had for nothing.
  pub typed : (F : Field) → FLaws F → One F.row → (y : F.Value) (v : Val) → Is F.row (F.into y) (v ∷ []) → T (has_ty (lone F.row.mir) v) × WT v
  typed F law one y v is = (subst (λ (τs : List Ty). Typed τs (v ∷ [])) one ((law.lawful 𝓛).typed (F.into y) (v ∷ []) is)).0

module _ {X Y : Type 0} (f : X → Y) where
  map_set : (xs : List X) (i : ℕ) (y : X) → set (map f xs) i (f y) ≡ map f (set xs i y)
  map_set [] i y = refl
  map_set (x ∷ xs) zero y = refl
  map_set (x ∷ xs) (suc i) y = ap (λ (ys : List Y). f x ∷ ys) (map_set xs i y)

module _ {M : Type 1} {𝓤 : Ura M} {𝓛 : Logic 𝓤} {K : Type 0} {Γ : List (Item 𝓤)} where
  -- Entry n is h, and what is stored is y: entry n is then h'.
  open 𝓛 use {H}

  pub store_part : K → (n : ℕ) (R : RattleType) (F : Field) → FLaws F → Plain F → One F.row → (h h' : R.Denot) (f : F.row.Denot) (y : F.Value) (a c : ℕ × ℕ) {v : Val}
      → nth 𝓛 n Γ ≡ ‵ (part_at R full_share h a.0 a.1) → Within 𝓛 R F.row h h' f (F.into y) a c → Is F.row (F.into y) (v ∷ [])
      → Writes K 𝓛 Γ (lone F.row.mir) c.0 c.1 v (put 𝓛 n (‵ (part_at R full_share h' a.0 a.1)) Γ)
  store_part t n R F law plain one h h' f y a c {v} e w is = record {
    go = λ P k.
        via 𝓤 (sep 𝓤 (H.room (lone F.row.mir) c.0 c.1) (wand 𝓤 (H.at full_share (lone F.row.mir) c.0 c.1 v) P))
        (via 𝓤 (sep 𝓤 (sem 𝓛 (part_at R full_share h a.0 a.1)) (⋆ 𝓛 (del 𝓛 n Γ)))
        (subst (λ (j : Item 𝓤). ent 𝓤 (⋆ 𝓛 Γ) (sep 𝓤 (mean 𝓛 j) (⋆ 𝓛 (del 𝓛 n Γ)))) e (pull 𝓛 n Γ))
        (qed 𝓛 (‵ (part_at R full_share h a.0 a.1) ∷ raw (⋆ 𝓛 (del 𝓛 n Γ)) ∷ [])
        {P = sep 𝓤 (H.room (lone F.row.mir) c.0 c.1) (wand 𝓤 (H.at full_share (lone F.row.mir) c.0 c.1 v) P)} (
        use1 𝓛 (‵ (part_at F.row full_share f c.0 c.1)
        ⊛ raw (wand 𝓤 (sem 𝓛 (part_at F.row full_share (F.into y) c.0 c.1)) (sem 𝓛 (part_at R full_share h' a.0 a.1)))) w $ split ! $
        use1 𝓛 (‵ (froom (lone F.row.mir) c.0 c.1)) (part_room 𝓛 F.row f c.0 c.1) $ frame ! $
        assume ! (‵ (fat full_share (lone F.row.mir) c.0 c.1 v)) $
        use0 𝓛 (‵ (F.row.own_val (F.into y) (v ∷ []))) (makes_shadow 𝓛 (F.row.own_val (F.into y) (v ∷ [])) (plain (F.into y) (v ∷ [])) is) $ move ! (1 ∷ 0 ∷ []) $
        use2 𝓛 (‵ (part_at F.row full_share (F.into y) c.0 c.1)) (part_in 𝓛 F.row one full_share (F.into y) c.0 c.1 v) $
        use2 𝓛 (‵ (part_at R full_share h' a.0 a.1))
        (apply∗ 𝓤 (sem 𝓛 (part_at F.row full_share (F.into y) c.0 c.1)) (sem 𝓛 (part_at R full_share h' a.0 a.1))) $
        by ! (via 𝓤 (⋆ 𝓛 (put 𝓛 n (‵ (part_at R full_share h' a.0 a.1)) Γ)) (fill 𝓛 n (‵ (part_at R full_share h' a.0 a.1)) Γ) k))))
        (guard_i 𝓤 (T (has_ty (lone F.row.mir) v) × WT v) (sep 𝓤 (H.room (lone F.row.mir) c.0 c.1) (wand 𝓤 (H.at full_share (lone F.row.mir) c.0 c.1 v) P))
        (typed 𝓛 F law one y v is));
  }

  -- A field stored whole.
  pub store_field : K → (n : ℕ) (N : Record) (gp : Propositions N) (L : Lawss N.parts) (k d : ℕ) → Plain (FieldAt N.parts k) → One (FieldAt N.parts k).row
      → field_at zero (to_tys (mirs (rows N.parts))) k ≡ some (lone (FieldAt N.parts k).row.mir, d)
      → (x x' : N.D) (y : (FieldAt N.parts k).Value) (a : ℕ × ℕ) {v : Val} → nth 𝓛 n Γ ≡ ‵ (part_at (declared.row (declared N gp)) full_share x a.0 a.1)
      → N.as_values x' ≡ put_at N.parts k y (N.as_values x) → Is (FieldAt N.parts k).row ((FieldAt N.parts k).into y) (v ∷ [])
      → Writes K 𝓛 Γ (lone (FieldAt N.parts k).row.mir) a.0 (a.1 + d) v (put 𝓛 n (‵ (part_at (declared.row (declared N gp)) full_share x' a.0 a.1)) Γ)
  store_field t n N gp L k d plain one at x x' y a e made is =
      store_part t n (declared.row (declared N gp)) (FieldAt N.parts k) (law_at N.parts L k) plain one x x' ((FieldAt N.parts k).into (get_at N.parts k (N.as_values x))) y
      a (a.0, a.1 + d) e (member 𝓛 N gp L k d one at x x' y a made) is

  -- Element i of an array of m that lies in h at c, stored where the machine's number says that it lies.
  pub store_element : K → (n : ℕ) (R : RattleType) (F : Field) (m : ℕ) → FLaws F → Plain F → One F.row → Single F.row.mir → (h h' : R.Denot) (xs : List F.Value) (i : ℕ)
      (d y : F.Value) (a c : ℕ × ℕ) {v : Val} (o : ℕ) → place (mem F.row).size c.1 i ≡ o → i < m → nth 𝓛 n Γ ≡ ‵ (part_at R full_share h a.0 a.1)
      → Within 𝓛 R (Array F.row m) h h' (map F.into xs) (map F.into (set xs i y)) a c → Is F.row (F.into y) (v ∷ [])
      → Writes K 𝓛 Γ (lone F.row.mir) c.0 o v (put 𝓛 n (‵ (part_at R full_share h' a.0 a.1)) Γ)
  store_element t n R F m law plain one single h h' xs i d y a c {v} o at i<m e w is =
      subst (λ (p : ℕ). Writes K 𝓛 Γ (lone F.row.mir) c.0 p v (put 𝓛 n (‵ (part_at R full_share h' a.0 a.1)) Γ)) at
      (store_part t n R F law plain one h h' (get_or (map F.into xs) i (F.into d)) y a (c.0, place (mem F.row).size c.1 i) e
      (element 𝓛 R F.row m single h h' (map F.into xs) i (F.into d) (F.into y) a c i<m
      (subst (λ (zs : List F.row.Denot). Within 𝓛 R (Array F.row m) h h' (map F.into xs) zs a c) (sym (map_set F.into xs i y)) w)) is)

module _ {M : Type 1} {𝓤 : Ura M} {𝓛 : Logic 𝓤} {K : Type 0} {Γ : List (Item 𝓤)} where
  -- What was read whole is one entry again.
  open 𝓛 use {H}

  pub packs : K → {G : Goal 𝓤 H} (R : RattleType) (h : R.Denot) (vs : List Val) (b o : ℕ)
      → Step K 𝓛 (‵ (part_at R full_share h b o) ∷ Γ) G (‵ (cell_at full_share R.mir vs b o) ∷ ‵ (R.own_val h vs) ∷ Γ) G
  unfolding part_of
  packs t R h vs b o = step (λ s. fjoin t $ fpack t (List Val) (λ us. fsep (cell_at full_share R.mir us b o) (R.own_val h us)) vs $ s)

  -- `if c { a }` and then the rest, where a may return.
  pub unless : K → {E : Env 𝓤 H} {C : Calls 𝓤 H} {Λ : Loops 𝓤 H} {q : Post 𝓤 H} {c : Opd} {a rest : Body} {y : Bool} → Evaluates K 𝓛 Γ E c (vbool y)
      → (T y → Seq K 𝓛 Γ (runs C Λ E a (any_q (after_seq 𝓤 H (Wp 𝓤 H C Λ E rest (post 𝓤 H q)) (post 𝓤 H q))))) → (T (not y) → Seq K 𝓛 Γ (runs C Λ E rest q))
      → Seq K 𝓛 Γ (runs C Λ E (seq (cond c a skip) rest) q)
  unless t o taken left = first t $ branches t o taken (λ h. skips t $ record { prf = (left h).prf })

  -- A local that holds something goes.
  pub gone : K → {τ : Ty} {b : ℕ} {v : Val} {E : Env 𝓤 H} {g : Goal 𝓤 H} → Step K 𝓛 Γ (frees E g) (‵ (fat full_share τ b zero v) ∷ ‵ (fdies τ b) ∷ Γ) (frees ((τ, b) ∷ E) g)
  gone t = step (λ s. forget t 0 refl $ free1 t $ s)

-- Of cells side by side, the one at i, and the way back with another value in it.
module _ {M : Type 1} {𝓤 : Ura M} (𝓛 : Logic 𝓤) (q : Share) (τ : Ty) (b : ℕ) where
  open 𝓛 use {H}

  abbrev Back : ℕ → List Val → ℕ → Val → SProp 𝓤
  Back o us i w = wand 𝓤 (H.at q τ b (place (size τ) o i) w) (elems 𝓤 H q τ b o (set us i w))

  cell_at_lem : (o : ℕ) (us : List Val) (i : ℕ) (d : Val) → i < length us
      → ent 𝓤 (elems 𝓤 H q τ b o us) (sep 𝓤 (H.at q τ b (place (size τ) o i) (get_or us i d)) (all 𝓤 (Back o us i)))
  cell_at_lem o [] i d h = absurd (not-suc-le-zero h)
  cell_at_lem o (u ∷ us) zero d h =
      qed 𝓛 (‵ (fat q τ b o u) ∷ raw (elems 𝓤 H q τ b (o + size τ) us) ∷ []) ∵ frame ! $
      for-each ! (Back o (u ∷ us) zero) (λ w. assume {P = elems 𝓤 H q τ b o (w ∷ us)} ! (‵ (fat q τ b o w)) $ done !)
  cell_at_lem o (u ∷ us) (suc i) d h =
      qed 𝓛 (‵ (fat q τ b o u) ∷ raw (elems 𝓤 H q τ b (o + size τ) us) ∷ []) ∵ move ! (1 ∷ []) $
      use1 𝓛 (‵ (fat q τ b (place (size τ) (o + size τ) i) (get_or us i d)) ⊛ raw (all 𝓤 (Back (o + size τ) us i))) (cell_at_lem (o + size τ) us i d (le_of_suc-le-suc h)) $ split ! $ frame ! $
      for-each ! (Back o (u ∷ us) (suc i)) (λ w. assume {P = elems 𝓤 H q τ b o (u ∷ set us i w)} ! (‵ (fat q τ b (place (size τ) (o + size τ) i) w)) $ move ! (1 ∷ []) $
      use1 𝓛 (raw (Back (o + size τ) us i w)) (all_e 𝓤 (Back (o + size τ) us i) w) $ move ! (1 ∷ 0 ∷ []) $
      use2 𝓛 (raw (elems 𝓤 H q τ b (o + size τ) (set us i w)))
      (apply∗ 𝓤 (H.at q τ b (place (size τ) (o + size τ) i) w) (elems 𝓤 H q τ b (o + size τ) (set us i w))) $ move ! (1 ∷ 0 ∷ []) $ done !)

module _ {M : Type 1} {𝓤 : Ura M} {𝓛 : Logic 𝓤} {K : Type 0} where
  -- An array's cell has within it that of its element i.
  open 𝓛 use {H}

  pub nth_cell : K → {q : Share} {τ : Ty} {b : ℕ} (n o : ℕ) (us : List Val) (i : ℕ) (d : Val) → length us ≡ n → i < n
      → Part K 𝓛 (‵ (fat q (ty_array τ n) b o (array_val us))) q τ b (place (size τ) o i) (get_or us i d) (λ w. ‵ (fat q (ty_array τ n) b o (array_val (set us i w))))
  nth_cell t {q} {τ} {b} n o us i d l h = record {
    out =
        qed 𝓛 (‵ (fat q (ty_array τ n) b o (array_val us)) ∷ []) ∵
        use1 𝓛 (raw (elems 𝓤 H q τ b o us)) (𝓛.laws.at_elems q τ n b o us) $
        use1 𝓛 (‵ (fat q τ b (place (size τ) o i) (get_or us i d)) ⊛ raw (all 𝓤 (Back 𝓛 q τ b o us i))) (cell_at_lem 𝓛 q τ b o us i d (subst (λ (k : ℕ). i < k) (sym l) h)) $ split ! $ frame ! $
        for-each ! (λ (w : Val). wand 𝓤 (H.at q τ b (place (size τ) o i) w) (H.at q (ty_array τ n) b o (array_val (set us i w)))) (λ w.
        assume {P = H.at q (ty_array τ n) b o (array_val (set us i w))} ! (‵ (fat q τ b (place (size τ) o i) w)) $ move ! (1 ∷ []) $
        use1 𝓛 (raw (Back 𝓛 q τ b o us i w)) (all_e 𝓤 (Back 𝓛 q τ b o us i) w) $ move ! (1 ∷ 0 ∷ []) $
        use2 𝓛 (raw (elems 𝓤 H q τ b o (set us i w))) (apply∗ 𝓤 (H.at q τ b (place (size τ) o i) w) (elems 𝓤 H q τ b o (set us i w))) $
        by ! (subst (λ (k : ℕ). ent 𝓤 (elems 𝓤 H q τ b o (set us i w)) (H.at q (ty_array τ k) b o (array_val (set us i w)))) (length-set us i w ∙ l) (𝓛.laws.elems_at q τ b o (set us i w))));
    same = ap (λ (ws : List Val). ‵ (fat q (ty_array τ n) b o (array_val ws))) (set-get_or us i d);
  }

  module _ {Γ : List (Item 𝓤)} where
    -- Entry n is a local of m elements xs: element i is read where the machine's number says that it lies.
    pub look_element : K → (n : ℕ) (F : Field) (L : FLaws F) (m : ℕ) (xs : List F.Value) (i : ℕ) (d : F.Value) {q : Share} {b : ℕ} (o o' : ℕ) → length xs ≡ m → i < m
        → place (size (lone F.row.mir)) o i ≡ o' → nth 𝓛 n Γ ≡ ‵ (fat q (ty_array (lone F.row.mir) m) b o (array_val (map L.val (map F.into xs))))
        → Reads K 𝓛 Γ (lone F.row.mir) b o' (L.val (F.into (get_or xs i d)))
    look_element t n F L m xs i d {q} {b} o o' l h at e =
        subst (λ (p : ℕ). Reads K 𝓛 Γ (lone F.row.mir) b p (L.val (F.into (get_or xs i d)))) at
        (subst (λ (v : Val). Reads K 𝓛 Γ (lone F.row.mir) b (place (size (lone F.row.mir)) o i) v)
        (get_or-map L.val (map F.into xs) i (F.into d) ∙ ap L.val (get_or-map F.into xs i d))
        (look_in t n
        (subst (λ (j : Item 𝓤). Part K 𝓛 j q (lone F.row.mir) b (place (size (lone F.row.mir)) o i)
        (get_or (map L.val (map F.into xs)) i (L.val (F.into d)))
        (λ w. ‵ (fat q (ty_array (lone F.row.mir) m) b o (array_val (set (map L.val (map F.into xs)) i w))))) (sym e)
        (nth_cell t m o (map L.val (map F.into xs)) i (L.val (F.into d)) (length-map (map F.into xs) L.val ∙ length-map xs F.into ∙ l) h))))

-- What an array's relation says: how many elements there are, and each element's relation.
module _ (F : Field) (L : FLaws F) (m : ℕ) (xs : List F.Value) (vs : List Val) (is : Is (Array F.row m) (map F.into xs) vs) where
  pub as_many : length xs ≡ m
  as_many = sym (length-map xs F.into) ∙ is.1.0.1

  pub nth_is : (i : ℕ) (d : F.Value) → i < m → Is F.row (F.into (get_or xs i d)) (L.val (F.into (get_or xs i d)) ∷ [])
  nth_is i d h = go xs is.0 is.1.1 i (subst (λ (k : ℕ). i < k) (sym as_many) h)
    where
      go : (ys : List F.Value) (us : List Val) → shadow (each F.row.Denot F.row.own_val (map F.into ys) us) → (i : ℕ) → i < length ys
          → Is F.row (F.into (get_or ys i d)) (L.val (F.into (get_or ys i d)) ∷ [])
      go [] us s i h = absurd (not-suc-le-zero h)
      go (y ∷ ys) [] s i h = absurd s
      go (y ∷ ys) (u ∷ us) s zero h = subst (Is F.row (F.into y)) (L.tells (F.into y) (u ∷ []) s.0) s.0
      go (y ∷ ys) (u ∷ us) s (suc i) h = go ys us s.1 i (le_of_suc-le-suc h)
