-- Laws of the texts of integers: none begins another, and each has one value.
use Rattle.std.proofs.Common.{◌≡◌, ℕ, ◌+◌, ◌-◌, ◌%◌, ◌^◌, List, [], ◌∷◌, ◌++◌, ap, sym, ◌∙◌, inl, inr, arith}
use Rattle.model.specs.Integers.{AreGroups, groups_value, IsInt}

-- groups tell where they end
pub groups_front : (g h x y : List ℕ) → AreGroups g → AreGroups h → g ++ x ≡ h ++ y → g ≡ h
groups_front [] h x y p q e = absurd p
groups_front (a ∷ g) [] x y p q e = absurd q
groups_front (a ∷ []) (b ∷ []) x y p q e = cc
groups_front (a ∷ []) (b ∷ c ∷ h) x y p q e = let same : a ≡ b = cc in absurd (omega (arith, q.0))
groups_front (a ∷ b ∷ g) (c ∷ []) x y p q e = let same : a ≡ c = cc in absurd (omega (arith, p.0))
groups_front (a ∷ b ∷ g) (c ∷ d ∷ h) x y p q e =
    let same : a ≡ c = cc in
    let tails : (b ∷ g) ++ x ≡ (d ∷ h) ++ y = cc in
    let rest : b ∷ g ≡ d ∷ h = groups_front (b ∷ g) (d ∷ h) x y p.1 q.1 tails in
    cc

-- no text begins another, and each has one value
pub one_int : (prefix : ℕ) (a b x y : List ℕ) (v w : ℕ) → IsInt prefix a v → IsInt prefix b w → a ++ x ≡ b ++ y → (a ≡ b) × (v ≡ w)
one_int prefix a b x y v w (inl s) (inl t) e =
    let whole : (s.first ∷ []) ++ x ≡ (t.first ∷ []) ++ y = sym (ap (λ o. o ++ x) s.is) ∙ e ∙ ap (λ o. o ++ y) t.is in
    let same : s.first ≡ t.first = cc in
    (s.is ∙ ap (λ f. f ∷ []) same ∙ sym t.is, sym s.low_bits ∙ ap (λ f. f % 2 ^ prefix) same ∙ t.low_bits)
one_int prefix a b x y v w (inl s) (inr t) e =
    let whole : (s.first ∷ []) ++ x ≡ (t.first ∷ t.groups) ++ y = sym (ap (λ o. o ++ x) s.is) ∙ e ∙ ap (λ o. o ++ y) t.is in
    let same : s.first ≡ t.first = cc in
    let low : v ≡ 2 ^ prefix - 1 = sym s.low_bits ∙ ap (λ f. f % 2 ^ prefix) same ∙ t.ones in
    absurd (omega (arith, low, s.not_ones))
one_int prefix a b x y v w (inr s) (inl t) e =
    let whole : (s.first ∷ s.groups) ++ x ≡ (t.first ∷ []) ++ y = sym (ap (λ o. o ++ x) s.is) ∙ e ∙ ap (λ o. o ++ y) t.is in
    let same : t.first ≡ s.first = cc in
    let low : w ≡ 2 ^ prefix - 1 = sym t.low_bits ∙ ap (λ f. f % 2 ^ prefix) same ∙ s.ones in
    absurd (omega (arith, low, t.not_ones))
one_int prefix a b x y v w (inr s) (inr t) e =
    let whole : (s.first ∷ s.groups) ++ x ≡ (t.first ∷ t.groups) ++ y = sym (ap (λ o. o ++ x) s.is) ∙ e ∙ ap (λ o. o ++ y) t.is in
    let same : s.first ≡ t.first = cc in
    let tails : s.groups ++ x ≡ t.groups ++ y = cc in
    let groups : s.groups ≡ t.groups = groups_front s.groups t.groups x y s.are_groups t.are_groups tails in
    let left : s.first ∷ s.groups ≡ t.first ∷ t.groups = cc in
    (s.is ∙ left ∙ sym t.is, sym s.sum ∙ ap (λ g. 2 ^ prefix - 1 + groups_value g) groups ∙ t.sum)
