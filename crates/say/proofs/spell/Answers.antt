-- `spell` writes what `height_text` says: std's digits are those of `render`.
use Rattle.std.proofs.Common.{arith, ◌≡◌, sym, ap, ℕ, ◌<◌, ◌^◌, ◌∷◌}
use Rattle.std.specs.Prelude.{ℤ, pos, negsuc, suc, refl}
use lib.Signed.{mag}
use Rattle.std.specs.Fmt as fmt
use Rattle.std.proofs.lemmas.Fmt.{decimal_by_steps}
use Rattle.laws.specs.Signed.{back}
use Rattle.render.specs.Text.{decimal, height_text}
use Rattle.render.specs.TextLaws.{decimal_one, decimal_more}
use Rattle.say.proofs.spell.Goals as goal

-- By the digits: one below 10, else those of the tens and the last one.
same_digits : (n : ℕ) → n < 2 ^ 64 → fmt.decimal n ≡ decimal n
same_digits =
    decimal_by_steps (λ n digits. digits ≡ decimal n)
    (λ n one. sym (decimal_one n one))
    (λ n digits more tens. rw (decimal_more n more, sym tens) refl)

same_text : (z : ℤ) → mag z < 2 ^ 63 → fmt.signed_decimal z ≡ height_text z
unfolding height_text
same_text (pos n) h = same_digits n (omega arith)
same_text (negsuc n) h = ap (λ digits. 45 ∷ digits) (same_digits (suc n) (omega arith))

pub returns : goal.returns
returns g c plain ok =
    let fits = c.ranges.height.sfits in
    let written = rw (back c.args.height fits, same_text c.args.height (omega (arith, fits))) at c.write.ensures.writes in
    written plain ok
