-- Trees that are added behind all others, one after another.
use Rattle.dual_diff.proofs.Shared.{◌≡◌, ℕ, ◌≤◌, refl, sym, ap, ◌∙◌, subst, arith, true, Option, Some, Kind, bare, is_bare, Tree, Trees, none, more, append, count, State, compound, plains, takes_kind}
use Rattle.dual_diff.proofs.Shared.{Forest, empty, tree, arity, before_last, bytes_in, join, last_trees, one_tree, Stands, forest, KeepsRefusals, gives, represents_node, count-plains, Adds, AddsAll}
use Rattle.dual_diff.proofs.Shared.{Places, one, ends_as, used, Ends, arity-join, join-empty, keeps_after, before_last-join, last_trees-join, used_forest, adds_given}
pub use Rattle.dual_diff.specs.WritingLaws.{adds_free, adds_join, adds_none, still_expression, still_plain}

pub adds_more : {s t u : State} {ts : Trees} {a : Tree} {h : ℕ} → AddsAll s t ts → Adds t u a h → AddsAll s u (append ts (more a none))
adds_more b g = adds_join b (adds_given g)

pub adds_one : {s t : State} {a : Tree} {h : ℕ} → Stands s → Adds s t a h → AddsAll s t (more a none)
adds_one h g = adds_given g

-- a tree that is placed is the last one
pub places_one : {s t : State} {o : Option ℕ} {a : Tree} {h : ℕ} → Stands s → Adds s t a h → Places s t o (Some h) (one a)
places_one {h = h} stood g = record { stood = stood; adds = adds_given g; last = (h, refl, g) }

pub adds_as : {s t : State} {ts us : Trees} → AddsAll s t ts → ts ≡ us → AddsAll s t us
adds_as {s} {t} b e = subst (AddsAll s t) e b

pub adds_tree : {s t : State} {a b : Tree} {h : ℕ} → Adds s t a h → a ≡ b → Adds s t b h
adds_tree {s} {t} {h = h} g e = subst (λ (x : Tree). Adds s t x h) e g

-- nothing was added before it
pub adds_first : {s t u : State} {a : Tree} {h : ℕ} → AddsAll s t none → Adds t u a h → Adds s u a h
adds_first {s} {t} {u} b g =
    let c = adds_more b g in
    record { gives = record { tree = g.gives.tree; ends = ends_as g.gives.ends refl (b.whole ∙ nothing b.made b.represents.plain_trees); once = g.gives.once; whole = g.gives.whole; told = g.gives.told }; kept = c.kept; stands = g.stands }
  where
    nothing : (m : Forest) → plains m ≡ none → join (forest s) m ≡ forest s
    nothing empty e = join-empty (forest s)
    nothing (tree l k r) e = absurd cc

-- ---- bytes

pub added_arity : {s t : State} {ts : Trees} (b : AddsAll s t ts) → arity b.made ≡ count ts
added_arity b = sym (count-plains b.made) ∙ ap count b.represents.plain_trees

pub added_few : {s t : State} {ts : Trees} → AddsAll s t ts → count ts ≤ arity (forest t)
added_few {s = s} b = omega (arith, ap arity b.whole, arity-join (forest s) b.made, added_arity b)

pub added_begin : {s t : State} {ts : Trees} (n : ℕ) → Stands s → AddsAll s t ts → count ts ≡ n → used s.nodes ≡ bytes_in (before_last n (forest t))
added_begin {s = s} n h b e = used_forest s h ∙ ap bytes_in (sym (ap (before_last n) b.whole ∙ before_last-join n (forest s) b.made (sym e ∙ sym (added_arity b))))

-- ---- a node over them

pub adds_over : {s t u : State} {ts : Trees} {h : ℕ} (k : Kind) (n : ℕ) → AddsAll s t ts → count ts ≡ n → takes_kind k n ≡ true
    → Ends h (one_tree h (bare k) (last_trees n (forest t))) (before_last n (forest t)) (forest u) → KeepsRefusals t u → Stands u → Adds s u (compound k ts) h
adds_over {s} {t} {u} {ts} {h} k n b e takes ends kept stands =
    let many : n ≡ arity b.made = sym e ∙ sym (added_arity b) in
    let trees : last_trees n (forest t) ≡ b.made = ap (last_trees n) b.whole ∙ last_trees-join n (forest s) b.made many in
    let others : before_last n (forest t) ≡ forest s = ap (before_last n) b.whole ∙ before_last-join n (forest s) b.made many in
    record { gives = gives (ends_as ends (ap (λ (x : Forest). one_tree h (bare k) x) trees) others) (represents_node h (bare k) b.represents (ap (takes_kind k) e ∙ takes)) refl; kept = keeps_after s t u b.kept kept; stands = stands }

pub takes_bare : (k : Kind) (n : ℕ) → takes_kind k n ≡ true → is_bare k ≡ true
takes_bare k n h = grind arith
