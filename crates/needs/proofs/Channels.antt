-- The six cases of Cases leave no act out: every channel carries plain data, a channel of plain data, or anything deeper.
use Prim.Native.Nat.{ℕ, ◌<◌, ◌≤◌}
use native.Mathlib.Omega.{arith}
use mathlib.Core.Path.{◌≡◌}
use Rattle.reading.proofs.TypeLaws.{number_shape}
use Rattle.reading.specs.Types.{channel, number_of, shape}
use Rattle.reading.specs.declared.Shape.{Shape}
use Rattle.reading.specs.declared.Shape.TheVariants.{Plain, Channel}
use Rattle.needs.proofs.NeedLaws.{ShapeRange, shape_range}

-- A channel of one of the three.
pub data Case : ℕ → Type 0 where
  of_data : (g t : ℕ) → g < 64 → t < 16 → Case (channel g t)
  of_link : (g h t : ℕ) → g < 64 → h < 64 → t < 16 → Case (channel g (channel h t))
  of_deeper : (g h i u : ℕ) → g < 64 → h < 64 → i < 64 → Case (channel g (channel h (channel i u)))

-- Every type is plain data or a channel.
by_shape : (P : ℕ → Type 0) → ((k : ℕ) → k < 16 → P k) → ((g t : ℕ) → g < 64 → P (channel g t)) → (n : ℕ) → P n
unfolding number_of ShapeRange
by_shape P plain carrying n = go (shape n) (number_shape n) (shape_range n)
  where
    go : (s : Shape) → number_of s ≡ n → ShapeRange s → P n
    go (Plain k) e r = rw (← e) (plain k r)
    go (Channel g t) e r = rw (← e) (carrying g t r)

carrying_channel : (g h u : ℕ) → g < 64 → h < 64 → Case (channel g (channel h u))
carrying_channel g h u g64 h64 =
    by_shape (λ n. Case (channel g (channel h n))) (λ t. of_link g h t g64 h64) (λ i v. of_deeper g h i v g64 h64) u

carrying : (g t : ℕ) → g < 64 → Case (channel g t)
carrying g t g64 = by_shape (λ n. Case (channel g n)) (λ k. of_data g k g64) (λ h u. carrying_channel g h u g64) t

-- Whatever is not plain data, below 16, is a channel of one of the three.
pub every_channel : (n : ℕ) → 16 ≤ n → Case n
every_channel = by_shape (λ n. 16 ≤ n → Case n) (λ k r h. absurd (omega arith)) (λ g t r h. carrying g t r)
