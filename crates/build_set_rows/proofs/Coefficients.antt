-- The coefficients on the sets' columns: their constants as the code writes them; and a node's record as an accepted file has it. Assumes nothing.
use mathlib.Core.Path.{◌≡◌, refl, ◌∙◌, ap, ap₂, subst}
use Prim.Native.Nat.{ℕ, ◌+◌, ◌*◌, ◌<◌}
use mathlib.Core.List.{List}
use lib.Ieee.{Float, binary64, of_bits, round, neg}
use Rattle.pywr.specs.Numbers.{double, million, millionth, lesser, greater}
use Rattle.pywr.specs.FixedRows.{upper_coefficient, lower_coefficient}
use Rattle.fields.specs.Records.{records_end}
use Rattle.network_laws.specs.Sections.{Sections}
use Rattle.network_laws.proofs.Index.{node_start}
use Rattle.network_laws.specs.Passed.{NodePassed}
use Rattle.network_laws.proofs.Passed.{node_passed}

-- 1e6 and 1e-6
million_is : of_bits binary64 0x412e848000000000 ≡ million
unfolding million double of_bits round
million_is = refl

millionth_is : of_bits binary64 0x3eb0c6f7a0b5ed8d ≡ millionth
unfolding millionth of_bits round
millionth_is = refl

pub upper_is : (max most x : Float) → most ≡ max → x ≡ lesser most (of_bits binary64 0x412e848000000000) → x ≡ upper_coefficient max
unfolding upper_coefficient
upper_is max most x e q = q ∙ ap₂ lesser e million_is

pub lower_is : (min least x : Float) → least ≡ min → x ≡ greater least (of_bits binary64 0x3eb0c6f7a0b5ed8d) → neg x ≡ lower_coefficient min
unfolding lower_coefficient
lower_is min least x e q = ap neg (q ∙ ap₂ greater e millionth_is)

-- node i of an accepted file
pub node_stands : (file : List ℕ) (n e a v place : ℕ) → Sections file n e a v place → (i : ℕ) → i < n → NodePassed file (20 * i)
node_stands file n e a v place h i lt =
    subst (NodePassed file) (node_start i) (node_passed file (records_end (λ at. at + 20) i 0) _ (h.nodes_pass i lt))
