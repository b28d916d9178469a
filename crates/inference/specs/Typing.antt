-- Questions 7 to 10, each a test of one act: the typing rules of the calculus.
use Rattle.std.specs.Prelude.{ℕ, Bool, true, false, ◌&&◌, eqb}
use Rattle.std.proofs.Math.Option.{Option, some, none}
use Rattle.reading.specs.Types.{shape}
use Rattle.reading.specs.Forms.{member}
use Rattle.reading.specs.declared.Shape.{Shape}
use Rattle.reading.specs.declared.Shape.TheVariants.{Plain, Channel}
use Rattle.inference.specs.Acts.{Act}

unfoldable pub is_known : Option ℕ → Bool
is_known none = false
is_known (some t) = true

-- Of a channel type G[T]: what is asked of G and T; no for any other type, and for none.
unfoldable pub of_shape : (ℕ → ℕ → Bool) → Shape → Bool
of_shape ask (Plain k) = false
of_shape ask (Channel g t) = ask g t

unfoldable pub of_channel : (ℕ → ℕ → Bool) → Option ℕ → Bool
of_channel ask none = false
of_channel ask (some t) = of_shape ask (shape t)

unfoldable pub is_type : ℕ → Option ℕ → Bool
is_type t none = false
is_type t (some u) = eqb t u

-- 7: "each used name in scope?"
unfoldable pub in_scope : Act → Bool
in_scope a = is_known a.channel && is_known a.object

-- 8: "each used channel a channel?"
unfoldable pub on_channel : Act → Bool
on_channel a = of_channel (λ g t. true) a.channel

-- 9: "carried type equal to the type of the name sent or bound?"
unfoldable pub carries_object : Act → Bool
carries_object a = of_channel (λ g t. is_type t a.object) a.channel

-- 10: "the channel's outermost group in the post's path?"
unfoldable pub in_path : Act → Bool
in_path a = of_channel (λ g t. member g a.component.path) a.channel
