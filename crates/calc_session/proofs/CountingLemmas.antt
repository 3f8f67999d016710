-- Lemmas on which refusals are counted.
use Rattle.calc_session.proofs.Shared.{both_ways, ◌≡◌, ◌∙◌, IfSome, false, inl, inr, sym, ap, subst, arith, Asked, IsCommandLine, is_command, once, Tree, size, Placed, derivative, fills, Full}
use Rattle.calc_session.proofs.Shared.{AsksForTooMuch, CountsRefusal, ExpressionBecomes, IsCountedBut, IsKnownOf, IsNoExpression, LacksBytesFor, LacksDerivative, ReadsText, Reason, Unmade}
use Rattle.calc_session.proofs.{Shared.{KeepsRefusals, made_in, State, asks_colon}, EvaluationLemmas.{keeps_then}, PoolLemmas.{still_counted}, TextLemmas.{one_text, read_at_all}}
use Rattle.std.proofs.Common.{ℕ, ◌≤◌, List, Option, None, Some}
use Rattle.node_pool.specs.State.{State as PoolState}

-- ---- what is known of no refusal

pub none_known : {Known : Full → Type 0} (refusal : Option Full) → ((lack : Full) → Known lack → ⊥) → IfSome refusal (λ lack. ¬ (Known lack))
none_known None h = tt
none_known (Some lack) h = h lack

-- a line that is no command
pub none_asked : (old : State) (line : List ℕ) → is_command line ≡ false → (lack : Full) → AsksForTooMuch old line lack → ⊥
none_asked old line text lack h = both_ways _ text (asks_colon h.asks)

-- a derivative that finds room
pub none_short : (x : List ℕ) (left : ℕ) (t : Tree) → size (derivative x t) ≤ left → (lack : Full) → LacksDerivative x left t lack → ⊥
none_short x left t fits lack h = let short = h.short in omega (arith, fits, short)

-- ---- what is known of an expression

-- a text that is no expression
pub none_read : {Known : ℕ → Tree → Full → Type 0} (old : State) (text : List ℕ) (n : ℕ) (reason : Reason) → IsNoExpression n text reason → (lack : Full) → IsKnownOf Known old text lack → ⊥
none_read old text n reason h lack k = read_at_all text k.becomes.reads h

-- a tree that is not made
pub none_made : {Known : ℕ → Tree → Full → Type 0} (old : State) (text : List ℕ) (tokens : List Placed) (t : Tree) (reason : Reason) → ReadsText text tokens None t → Unmade (made_in old t) reason → (lack : Full) → IsKnownOf Known old text lack → ⊥
none_made old text tokens t reason reads unmade lack k = subst (λ m. Unmade m reason) (ap (made_in old) (one_text text reads k.becomes.reads).trees ∙ k.becomes.is_made) unmade

pub left_is : (l m : ℕ) (t u : Tree) → fills l t ≡ fills m u → l ≡ m
left_is l m t u e = cc

pub tree_is : (l m : ℕ) (t u : Tree) → fills l t ≡ fills m u → t ≡ u
tree_is l m t u e = cc

pub known_there : {Known : ℕ → Tree → Full → Type 0} (old : State) (text : List ℕ) (t : Tree) (b : ExpressionBecomes old text t) (lack : Full) → IsKnownOf Known old text lack → Known b.left t lack
known_there {Known} old text t b lack k =
    let same : fills k.becomes.left k.tree ≡ fills b.left t = sym k.becomes.is_made ∙ ap (made_in old) (one_text text k.becomes.reads b.reads).trees ∙ b.is_made in
    subst (λ u. Known b.left u lack) (tree_is k.becomes.left b.left k.tree t same) (subst (λ n. Known n k.tree lack) (left_is k.becomes.left b.left k.tree t same) k.is_known)

-- ---- the same refusals are known

known_as : {Known Now : Full → Type 0} (refusal : Option Full) → ((lack : Full) → Now lack → Known lack) → IfSome refusal (λ lack. ¬ (Known lack)) → IfSome refusal (λ lack. ¬ (Now lack))
known_as None back h = tt
known_as (Some lack) back h = λ k. h (back lack k)

pub counted_as : {Known Now : Full → Type 0} (Counts : Option Full → Type 0) (refusal : Option Full) → ((lack : Full) → Known lack → Now lack) → ((lack : Full) → Now lack → Known lack) → IsCountedBut Known Counts refusal → IsCountedBut Now Counts refusal
counted_as Counts refusal to back (inl (none, counts)) = inl (known_as refusal back none, counts)
counted_as Counts refusal to back (inr (lack, is, known, counts)) = inr (lack, is, to lack known, counts)

pub counted_then : {Known : Full → Type 0} (s t u : PoolState) (refusal : Option Full) → KeepsRefusals s t → IsCountedBut Known (λ r. CountsRefusal r t u) refusal → IsCountedBut Known (λ r. CountsRefusal r s u) refusal
counted_then s t u refusal k (inl (none, counts)) = inl (none, keeps_then refusal s t u k counts)
counted_then s t u refusal k (inr (lack, is, known, counts)) = inr (lack, is, known, keeps_then None s t u k counts)

pub counted_still : {Known : Full → Type 0} (s t u : PoolState) (refusal : Option Full) → KeepsRefusals t u → IsCountedBut Known (λ r. CountsRefusal r s t) refusal → IsCountedBut Known (λ r. CountsRefusal r s u) refusal
counted_still s t u refusal k (inl (none, counts)) = inl (none, still_counted refusal s t u counts k)
counted_still s t u refusal k (inr (lack, is, known, counts)) = inr (lack, is, known, still_counted None s t u counts k)

-- of what an expression becomes
pub counted_there : {Known : ℕ → Tree → Full → Type 0} (p q : PoolState) (old : State) (text : List ℕ) (t : Tree) (b : ExpressionBecomes old text t) (refusal : Option Full) → IsCountedBut (Known b.left t) (λ r. CountsRefusal r p q) refusal
    → IsCountedBut (IsKnownOf Known old text) (λ r. CountsRefusal r p q) refusal
counted_there p q old text t b refusal h = counted_as (λ r. CountsRefusal r p q) refusal (λ lack k. record { tree = t; becomes = b; is_known = k }) (known_there old text t b) h

-- of what a line asks for
pub counted_asked : (p q : PoolState) (old : State) (line : List ℕ) (a : Asked) (refusal : Option Full) → IsCommandLine line a → IsCountedBut (LacksBytesFor old a) (λ r. CountsRefusal r p q) refusal → IsCountedBut (AsksForTooMuch old line) (λ r. CountsRefusal r p q) refusal
counted_asked p q old line a refusal asked h =
    counted_as (λ r. CountsRefusal r p q) refusal (λ lack k. record { asked = a; asks = asked; lacks = k }) (λ lack k. subst (λ b. LacksBytesFor old b lack) (once line k.asked a k.asks asked) k.lacks) h
