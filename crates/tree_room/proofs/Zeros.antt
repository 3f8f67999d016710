-- Every name is 0.
use Rattle.tree_room.proofs.Shared.{in_front, behind, where_in, ◌≡◌, ℕ, suc, pos, ◌⊎◌, inl, inr, List, [], ◌∷◌, Bool, true, false, refl, sym, ap, ◌∙◌, subst, arith, true≢false, get_or-map, length-map}
use Rattle.tree_room.proofs.Shared.{bytes_eq-Decides, Contains, bytes_eq, Binding, IsAssignment, bound_names, surd_of, Same-refl, symbol, MeansWhole, zeros}
use Rattle.calc_terms.proofs.SmallLaws.{nobody as none_in}
use Rattle.calc_terms.specs.Fractions.{zero_fraction}

abbrev as_zero : List ℕ → Binding
as_zero x = record { name = x; value = zero_fraction }

pub symbol_zero : (ns : List (List ℕ)) (x : List ℕ) → Contains ns x → MeansWhole (zeros ns) (symbol x)
unfolding zero_fraction
symbol_zero ns x (k, l, e) = (pos 0, (zero_fraction, (k, rw length-map l, get_or-map as_zero ns k x (as_zero x) l ∙ ap as_zero e), Same-refl (surd_of zero_fraction)))

-- ---- each name once

zero_names : (ns : List (List ℕ)) → bound_names (zeros ns) ≡ ns
zero_names [] = refl
zero_names (x ∷ ns) = ap (λ ms. x ∷ ms) (zero_names ns)

-- whether a name is in a list
known : (x : List ℕ) (ns : List (List ℕ)) → Contains ns x ⊎ (Contains ns x → ⊥)
known x [] = inr (none_in x)
known x (y ∷ ns) = by (bytes_eq y x) refl (known x ns)
  where
    by : (z : Bool) → bytes_eq y x ≡ z → Contains ns x ⊎ (Contains ns x → ⊥) → Contains (y ∷ ns) x ⊎ (Contains (y ∷ ns) x → ⊥)
    by true e k = inl (0, omega arith, (bytes_eq-Decides y x).0 e)
    by false e (inl k) = inl (behind y x ns k)
    by false e (inr f) = inr apart
      where
        not_first : y ≡ x → ⊥
        not_first h = true≢false (sym ((bytes_eq-Decides y x).1 h) ∙ e)

        either : (y ≡ x) ⊎ Contains ns x → ⊥
        either (inl h) = not_first h
        either (inr h) = f h

        apart : Contains (y ∷ ns) x → ⊥
        apart h = either (where_in y x ns h)

pub record EachOnce (ns : List (List ℕ)) : Type 0 where
  pub names : List (List ℕ)
  pub once : IsAssignment (zeros names)
  pub all : (x : List ℕ) → Contains ns x → Contains names x

pub each_once : (ns : List (List ℕ)) → EachOnce ns
each_once [] = record { names = []; once = tt; all = λ x h. h }
each_once (y ∷ ns) = by (each_once ns)
  where
    by : EachOnce ns → EachOnce (y ∷ ns)
    by o = add (known y o.names)
      where
        found : Contains o.names y → (x : List ℕ) → (y ≡ x) ⊎ Contains ns x → Contains o.names x
        found k x (inl h) = subst (Contains o.names) h k
        found k x (inr h) = o.all x h

        added : (x : List ℕ) → (y ≡ x) ⊎ Contains ns x → Contains (y ∷ o.names) x
        added x (inl h) = subst (Contains (y ∷ o.names)) h (in_front y o.names)
        added x (inr h) = behind y x o.names (o.all x h)

        add : Contains o.names y ⊎ (Contains o.names y → ⊥) → EachOnce (y ∷ ns)
        add (inl k) = record { names = o.names; once = o.once; all = λ x h. found k x (where_in y x ns h) }
        add (inr f) = record { names = y ∷ o.names; once = (λ h. f (subst (λ ms. Contains ms y) (zero_names o.names) h), o.once); all = λ x h. added x (where_in y x ns h) }
