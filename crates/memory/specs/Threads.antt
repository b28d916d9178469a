-- Threads as numbers, and a list of which a part is replaced.
use Rattle.std.specs.Prelude.{ℕ, ◌+◌, ◌*◌, ◌/◌, ◌%◌, List, ◌++◌, take, drop}
use Rattle.memory.specs.declared.Thread.{Thread}

-- each field in digits of its own
unfoldable pub packed : Thread → ℕ
packed t = (((t.env % 65536 * 256 + t.component % 256) * 128 + t.names % 128) * 128 + t.nest % 128) * 8192 + t.at % 8192

unfoldable pub unpacked : ℕ → Thread
unpacked w = record {
  component = w / 8192 / 128 / 128 % 256;
  env = w / 8192 / 128 / 128 / 256;
  names = w / 8192 / 128 % 128;
  nest = w / 8192 % 128;
  at = w % 8192;
}

-- a list with others in place of those from `at` up to `from`
unfoldable pub replaced : {A : Type 0} → List A → ℕ → ℕ → List A → List A
replaced l at from others = take at l ++ (others ++ drop from l)
