-- The depth of a list of values, by which functions over values that call themselves end.
use Rattle.std.proofs.Common.{◌≡◌, ℕ, ◌<◌, ◌≤◌, max, List, [], ◌∷◌, length, get_or, sym, subst, arith, suc}
use denote.Param.Weighed.{most, at_most}
use Rattle.trace_lines.specs.parts.Holding.{AreBelow}

-- of a pair, by the depth of each of both
abbrev pub pair_depth : {V : Type 0} → (V → ℕ) → V × V → ℕ
pair_depth depth p = max (depth p.0) (max (depth p.1) 0)

-- ---- what is below a number

lower : (a b n : ℕ) → a ≤ b → b < n → a < n
lower a b n le lt = omega arith

-- each is below what the greatest is below
pub each_below : {V : Type 0} (depth : V → ℕ) (vs : List V) (n : ℕ) → most depth vs < n → AreBelow depth vs n
each_below depth vs n lt =
    (lower 0 (most depth vs) n (omega arith) lt, λ k d here. lower _ (most depth vs) n (at_most depth vs k d here) lt)

-- where all are below a number the greatest is
pub most_below : {V : Type 0} (depth : V → ℕ) (vs : List V) (n : ℕ) → AreBelow depth vs n → most depth vs < n
most_below depth [] n all = all.0
most_below depth (v ∷ vs) n all =
    let first : depth v < n = all.1 0 v (omega arith) in
    let others : most depth vs < n = most_below depth vs n (all.0, λ k d here. all.1 (suc k) d (omega arith)) in
    omega arith

-- where all keys and values are below a number the greatest is
pub most_pair_below :
    {V : Type 0} (depth : V → ℕ) (ps : List (V × V)) (n : ℕ) → AreBelow (λ p. depth p.0) ps n
    × AreBelow (λ p. depth p.1) ps n →
    most (pair_depth depth) ps < n
most_pair_below {V} depth [] n all = all.0.0
most_pair_below {V} depth (p ∷ ps) n all =
    let key : depth p.0 < n = all.0.1 0 p (omega arith) in
    let value : depth p.1 < n = all.1.1 0 p (omega arith) in
    let others : most (pair_depth depth) ps < n =
    most_pair_below depth ps n (
      (all.0.0, λ k d here. all.0.1 (suc k) d (omega arith)),
      (all.1.0, λ k d here. all.1.1 (suc k) d (omega arith)),
    ) in
    omega arith

-- ---- an element of a list

-- an element is no deeper than its list
pub item_in :
    {V : Type 0} (depth : V → ℕ) (vs : List V) (i : ℕ) (v : V) → i < length vs → v ≡ get_or vs i v →
    depth v ≤ most depth vs
item_in {V} depth vs i v lt at = subst (λ (x : V). depth x ≤ most depth vs) (sym at) (at_most depth vs i v lt)

first_of : (a b m : ℕ) → max a (max b 0) ≤ m → a ≤ m
first_of a b m le = omega (arith, le)

second_of : (a b m : ℕ) → max a (max b 0) ≤ m → b ≤ m
second_of a b m le = omega (arith, le)

-- a key is no deeper than its pairs
pub key_in :
    {V : Type 0} (depth : V → ℕ) (ps : List (V × V)) (i : ℕ) (p : V × V) → i < length ps → p ≡ get_or ps i p →
    depth p.0 ≤ most (pair_depth depth) ps
key_in depth ps i p lt at = first_of (depth p.0) (depth p.1) _ (item_in (pair_depth depth) ps i p lt at)

-- a value is no deeper than its pairs
pub value_in :
    {V : Type 0} (depth : V → ℕ) (ps : List (V × V)) (i : ℕ) (p : V × V) → i < length ps → p ≡ get_or ps i p →
    depth p.1 ≤ most (pair_depth depth) ps
value_in depth ps i p lt at = second_of (depth p.0) (depth p.1) _ (item_in (pair_depth depth) ps i p lt at)
