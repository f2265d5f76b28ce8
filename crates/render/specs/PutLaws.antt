-- Laws of texts laid over a buffer, one after the other.
use Rattle.std.specs.Prelude.{ℕ, suc, ◌+◌, ◌-◌, ◌≤◌, min, Bool, true, false, List, [], ◌∷◌, ◌++◌, ◌≡◌, refl, leb, length, set, take, drop}
use Rattle.std.proofs.Common.{◌∙◌, add-zero, arith, leb-true, leb-false, length-append}
use Rattle.std.proofs.lemmas.List.Edits.{sets, sets-eq}
use Rattle.std.proofs.Math.Seq.{length-sets, set_out, take-append_seam}
use Rattle.render.specs.declared.Writer.{Writer}
use Rattle.render.specs.Put.{Put, Wrote}

-- Past the buffer's end nothing is laid.
sets_past : (d : List ℕ) (at : ℕ) (xs : List ℕ) → length d ≤ at → sets d at xs ≡ d
sets_past d at [] h = refl
sets_past d at (x ∷ xs) h = rw (set_out d at x h) (sets_past d (suc at) xs (omega arith))

-- Two texts one after the other are laid as one.
sets_append : (d : List ℕ) (at : ℕ) (xs ys : List ℕ) → sets (sets d at xs) (at + length xs) ys ≡ sets d at (xs ++ ys)
sets_append d at [] ys = rw add-zero
sets_append d at (x ∷ xs) ys =
    let e : at + suc (length xs) ≡ suc at + length xs = omega arith in
    rw e (sets_append (set d at x) (suc at) xs ys)

-- The same where the second text begins at the place that the first one left, within the buffer or at its end.
sets_next : (d : List ℕ) (at : ℕ) (xs ys : List ℕ)
    → sets (sets d at xs) (at + min (length xs) (length d - at)) ys ≡ sets d at (xs ++ ys)
sets_next d at xs ys = go (leb (length xs) (length d - at)) refl
  where
    go : (t : Bool) → leb (length xs) (length d - at) ≡ t
        → sets (sets d at xs) (at + min (length xs) (length d - at)) ys ≡ sets d at (xs ++ ys)
    go true h =
        let fits : length xs ≤ length d - at = leb-true (length xs) (length d - at) h in
        let e : min (length xs) (length d - at) ≡ length xs = omega arith in
        rw e (sets_append d at xs ys)
    go false h =
        let long : length (sets d at xs) ≡ length d = length-sets d at xs in
        let less : length d - at ≤ length xs = omega (arith, leb-false (length xs) (length d - at) h) in
        let e : min (length xs) (length d - at) ≡ length d - at = omega arith in
        rw (
          e,
          ← sets_append d at xs ys,
          sets_past (sets d at xs) (at + (length d - at)) ys (omega arith),
          sets_past (sets d at xs) (at + length xs) ys (omega arith),
        )

-- A text, and another where the first one ended, are one text.
pub put_then : {d : List ℕ} {at : ℕ} {xs ys : List ℕ} {d₁ d₂ : List ℕ} {r₁ r₂ : ℕ}
    → Put d at xs d₁ r₁ → Put d₁ r₁ ys d₂ r₂ → Put d at (xs ++ ys) d₂ r₂
put_then {d} {at} {xs} {ys} {d₁} {d₂} {r₁} {r₂} p q =
    let long : length (sets d at xs) ≡ length d = length-sets d at xs in
    record {
      laid = rw (q.laid, p.laid, p.moved) (sets_next d at xs ys);
      moved = rw (q.moved, p.moved, p.laid, long, length-append xs ys) (omega arith);
    }

-- No text.
pub put_none : (d : List ℕ) (at : ℕ) → Put d at [] d at
put_none d at = record { laid = refl; moved = omega arith }

-- The same of a writer.

pub wrote_then : {a : Writer} {xs ys : List ℕ} {b c : Writer} → Wrote a xs b → Wrote b ys c → Wrote a (xs ++ ys) c
wrote_then p q = record { put = put_then p.put q.put; same_reference = q.same_reference ∙ p.same_reference }

pub wrote_none : (a : Writer) → Wrote a [] a
wrote_none a = record { put = put_none a.out.now a.at; same_reference = refl }

-- The buffer keeps its length.
pub put_long : {d : List ℕ} {at : ℕ} {xs d' : List ℕ} {r : ℕ} → Put d at xs d' r → length d' ≡ length d
put_long {d} {at} {xs} p = rw p.laid (length-sets d at xs)

-- From a place in the buffer or at its end the next place is one too.
pub put_room : {d : List ℕ} {at : ℕ} {xs d' : List ℕ} {r : ℕ} → Put d at xs d' r → at ≤ length d → r ≤ length d'
put_room {d} {at} {xs} {d'} {r} p h = omega (arith, p.moved, put_long p)

-- Where the text fits, the next place is the one after it.
pub put_next : {d : List ℕ} {at : ℕ} {xs d' : List ℕ} {r : ℕ}
    → Put d at xs d' r → at + length xs ≤ length d → r ≡ at + length xs
put_next {d} {at} {xs} {d'} {r} p h = omega (arith, p.moved)

-- A text that fits, laid from the buffer's first place on, is what stands before the next place.
pub put_fits : {d xs d' : List ℕ} {r : ℕ} → Put d 0 xs d' r → length xs ≤ length d → take r d' ≡ xs
put_fits {d} {xs} {d'} {r} p h =
    let e : r ≡ length xs = omega (arith, p.moved) in
    rw (e, p.laid, sets-eq xs d 0 (omega arith)) (take-append_seam xs (drop (0 + length xs) d))
