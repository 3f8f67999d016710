use Rattle.beautify.proofs.Shared.{◌≡◌, ℕ, Bool, true, false, inl, ap, sym, ◌∙◌, subst, arith, refl, face, size, AllParts, KeepsMeanings, tree_of, Gives, plain, IsExpression, tree_at, without_root}
use Rattle.beautify.proofs.Shared.{forest, given_told, given_other, gives, gives_as, owned, represents_handed, expression_root, last_tree, plain_root, has_natural_numbers, IsShowable, behind_first}
use Rattle.beautify.proofs.{Shared.{front_same, front_end, front_without}, FaceTrees.{face_keeps, other_gone, keeps_before}, OwnFaces.{own_face}, Showables.{reduced_showable}}
use Rattle.beautify.proofs.faces.Faces.face_of.Goals.{After-has_natural_numbers, After-release}
use Rattle.beautify.proofs.faces.Faces.face_of.Goals as goal

pub has_natural_numbers-requires-clause-expression : goal.has_natural_numbers-requires-clause-expression
has_natural_numbers-requires-clause-expression c = subst (λ (i : ℕ). IsExpression i (forest c.args.pool.now)) (sym c.id.ensures) (expression_root c.requires.stands c.requires.handed)

-- whether the tree is its own face
tested : (c : After-has_natural_numbers) → has_natural_numbers (tree_of c.args.reduced c.args.pool.now) ≡ c.has_natural_numbers.result
tested c =
    sym (c.has_natural_numbers.ensures ∙ ap (λ (i : ℕ). has_natural_numbers (plain (tree_at i (forest c.args.pool.now)))) c.id.ensures ∙ ap has_natural_numbers (plain_root c.args.reduced c.requires.stands c.requires.handed.root))

another : {b t : Bool} → t ≡ b → b ≡ false → t ≡ true → ⊥
another e f h = cc

pub returns-then-has_natural_numbers-clause-ok : goal.returns-then-has_natural_numbers-clause-ok
returns-then-has_natural_numbers-clause-ok c =
    let own = own_face (tree_of c.args.reduced c.args.pool.now) c.requires.reduced (tested (goal.at.returns-then-has_natural_numbers-clause-ok c).After-has_natural_numbers ∙ c.if-has_natural_numbers.true) in
    gives c.move_last.ensures.last (represents_handed c.requires.handed) (sym own)

pub returns-then-has_natural_numbers-clause-meanings : goal.returns-then-has_natural_numbers-clause-meanings
returns-then-has_natural_numbers-clause-meanings c =
    let t = tree_of c.args.reduced c.args.pool.now in
    let own = own_face t c.requires.reduced (tested (goal.at.returns-then-has_natural_numbers-clause-meanings c).After-has_natural_numbers ∙ c.if-has_natural_numbers.true) in
    subst (KeepsMeanings t) (own ∙ sym (ap plain (last_tree c.move_last.ensures.last))) (face_keeps t c.requires.reduced)

pub returns-then-has_natural_numbers-clause-front : goal.returns-then-has_natural_numbers-clause-front
returns-then-has_natural_numbers-clause-front c = front_end c.move_last.ensures.last (front_without behind_first front_same)

pub write_face-requires-clause-expression : goal.write_face-requires-clause-expression
write_face-requires-clause-expression c = subst (λ (i : ℕ). IsExpression i (forest c.args.pool.now)) (sym c.id-2.ensures) (expression_root c.requires.stands c.requires.handed)

pub write_face-requires-clause-showable : goal.write_face-requires-clause-showable
write_face-requires-clause-showable c =
    let e : plain (tree_at c.id-2.result (forest c.args.pool.now)) ≡ tree_of c.args.reduced c.args.pool.now = ap (λ (i : ℕ). plain (tree_at i (forest c.args.pool.now))) c.id-2.ensures ∙ plain_root c.args.reduced c.requires.stands c.requires.handed.root in
    subst (AllParts IsShowable) (sym e) (reduced_showable _ c.requires.reduced c.requires.defined)

pub returns-in_err-write_face-clause-front : goal.returns-in_err-write_face-clause-front
returns-in_err-write_face-clause-front c = keeps_before c.in_err-write_face.ensures.first

pub returns-in_err-write_face-clause-own : goal.returns-in_err-write_face-clause-own
returns-in_err-write_face-clause-own c h = absurd (another (tested (goal.at.returns-in_err-write_face-clause-own c).After-has_natural_numbers) c.if-has_natural_numbers.false h)

pub returns-in_err-write_face-clause-enough : goal.returns-in_err-write_face-clause-enough
returns-in_err-write_face-clause-enough c h =
    let e : plain (tree_at c.id-2.result (forest c.args.pool.now)) ≡ tree_of c.args.reduced c.args.pool.now = ap (λ (i : ℕ). plain (tree_at i (forest c.args.pool.now))) c.id-2.ensures ∙ plain_root c.args.reduced c.requires.stands c.requires.handed.root in
    absurd (omega (arith, h, c.in_err-write_face.ensures.room, ap size e))

pub release-requires-clause-releasable : goal.release-requires-clause-releasable
release-requires-clause-releasable c = inl (given_other (c.join_notes-face.ensures.ok (forest c.args.pool.now) _ c.in_ok-write_face.ensures.ok) c.requires.handed).root

given : (c : After-release) → Gives (without_root c.args.reduced (forest c.args.pool.now)) (forest c.release.new.pool) c.join_notes-face.result (λ t. t ≡ face (tree_of c.args.reduced c.args.pool.now))
given c =
    let e : plain (tree_at c.id-2.result (forest c.args.pool.now)) ≡ tree_of c.args.reduced c.args.pool.now = ap (λ (i : ℕ). plain (tree_at i (forest c.args.pool.now))) c.id-2.ensures ∙ plain_root c.args.reduced c.requires.stands c.requires.handed.root in
    let made = c.join_notes-face.ensures.ok (forest c.args.pool.now) _ c.in_ok-write_face.ensures.ok in
    let gone = c.release.ensures.owned (owned (given_other made c.requires.handed)) in
    gives_as (other_gone c.requires.handed made gone) refl (λ t q. q ∙ ap face e)

pub returns-clause-ok : goal.returns-clause-ok
returns-clause-ok c = given c

pub returns-clause-meanings : goal.returns-clause-meanings
returns-clause-meanings c = subst (KeepsMeanings (tree_of c.args.reduced c.args.pool.now)) (sym (given_told (given c))) (face_keeps (tree_of c.args.reduced c.args.pool.now) c.requires.reduced)

pub returns-clause-front : goal.returns-clause-front
returns-clause-front c = front_end (given c).ends (front_without behind_first front_same)

pub returns-clause-own : goal.returns-clause-own
returns-clause-own c h = absurd (another (tested (goal.at.returns-clause-own c).After-has_natural_numbers) c.if-has_natural_numbers.false h)
