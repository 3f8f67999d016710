use Rattle.std.proofs.Common.{rules, ◌≡◌, ◌∙◌, ◌++◌, ℕ, List, refl, sym, ap, length, subst, arith}
use Rattle.calc_session.proofs.{Shared.{IsWritable, text, Content, plain, Forest, Gives, tree_of, tree_at, forest, given_told, Tells, HasFace}, EvaluationLemmas.{gives_told}}
use Rattle.calc_session.proofs.{SessionLemmas.{face_expression, face_room, face_tree}, telling.tell.Goals.{After-id}}
use Rattle.calc_session.specs.declared.answers.LineAnswer.TheVariants as answer
use Rattle.calc_session.proofs.telling.tell.Goals as goal

-- the face stands last, and can be written
face : (c : After-id) → (others : Forest) × Gives others (forest c.args.pool.now) c.in-Face.face IsWritable
face c = subst (HasFace (forest c.args.pool.now)) c.in-Face.is c.requires.face

itself : (c : After-id) → (others : Forest) × Gives others (forest c.args.pool.now) c.in-Face.face (λ t. t ≡ tree_of c.in-Face.face c.args.pool.now)
itself c = let (others, g) = face c in (others, gives_told (λ t. t ≡ tree_of c.in-Face.face c.args.pool.now) g refl)

same : (c : After-id) → plain (tree_at c.id.result (forest c.args.pool.now)) ≡ tree_of c.in-Face.face c.args.pool.now
same c = let (others, g) = itself c in face_tree c.args.pool.now others c.in-Face.face c.id.result (tree_of c.in-Face.face c.args.pool.now) c.requires.stands g c.id.ensures

pub write_text-requires : goal.write_text-requires
write_text-requires c =
    let (others, g) = itself (goal.at.write_text-requires c).After-id in
    record {
      stands = search rules;
      expression = face_expression c.args.pool.now others c.in-Face.face c.id.result (tree_of c.in-Face.face c.args.pool.now) c.requires.stands g c.id.ensures;
      writable =
          let here = (goal.at.write_text-requires c).After-id in
          let (others, g) = face here in
          subst IsWritable (sym (same here)) (given_told g);
      room = omega (arith, face_room c.args.pool.now others c.in-Face.face c.id.result (tree_of c.in-Face.face c.args.pool.now) c.requires.stands g c.id.ensures, c.requires.room, ap length c.requires.empty);
    }

pub returns-in-Face-clause-told : goal.returns-in-Face-clause-told
returns-in-Face-clause-told c =
    let written : c.write_text.new.text.bytes ≡ text (tree_of c.in-Face.face c.args.pool.now)
    = ap (λ (x : Content). x.bytes) c.write_text.ensures ∙ ap (λ (b : List ℕ). b ++ text (plain (tree_at c.id.result (forest c.args.pool.now)))) c.requires.empty ∙ ap text (same (goal.at.returns-in-Face-clause-told c).After-id) in
    subst (λ e. Tells c.args.pool.now e answer.Report c.write_text.new.text.bytes) (sym c.in-Face.is) (refl, written)

pub returns-in-Found-clause-told : goal.returns-in-Found-clause-told
returns-in-Found-clause-told c = subst (λ e. Tells c.args.pool.now e answer.Report c.write_finding.new.text.bytes) (sym c.in-Found.is) (refl, c.write_finding.ensures.text)
