use Rattle.std.proofs.Common.{◌≡◌, ◌≤◌, ◌∙◌, List, ℕ, length, map, refl, ap, subst, arith, codes}
use Rattle.calc_session.proofs.Shared.{Content, IsSmallForm, entries_of, extended, face, form_told, form_tree, length-append, name_of, text, value_of, Line}
use Rattle.calc_session.proofs.SolutionLemmas.{behind_two, behind_words, short_behind}
use Rattle.calc_session.proofs.solution_text.write_line.Goals as goal

pub returns-in-Free : goal.returns-in-Free
returns-in-Free c =
    let xs = map name_of c.args.names.now in
    let (is, long) = behind_words c.args.text.now c.push.new.self c.push-in-Free.new.self (name_of c.args.name) (codes " free") (subst (λ (x : List ℕ). c.push.new.self ≡ extended c.args.text.now x) c.bytes.ensures.value c.push.ensures) c.push-in-Free.ensures (subst (λ (x : List ℕ). length x ≤ 7) c.bytes.ensures.value c.bytes.ensures.name.short) (omega arith) in
    record {
      told = rw c.in-Free.is is;
      short = long;
      lacks = tt;
      counted = record { size = refl; refusals = refl; last_refused = refl };
      as_before = refl;
      capacity = ap (λ (x : Content). x.capacity) is;
      ready = c.requires.ready;
    }

pub write_form-requires : goal.write_form-requires
write_form-requires c = record {
  ready = c.requires.ready;
  rises = c.requires.rises;
  few = c.requires.few;
  small = subst (λ (l : Line). IsSmallForm (map name_of c.args.names.now) (form_told l)) c.in-Bound.is c.requires.small;
  room = omega (arith, c.requires.room, c.bytes.ensures.name.short, ap (λ (x : Content). x.capacity) c.push.ensures, ap (λ (x : Content). x.capacity) c.push-in-Bound.ensures, ap (λ (x : Content). length x.bytes) c.push.ensures, ap (λ (x : Content). length x.bytes) c.push-in-Bound.ensures, length-append c.args.text.now.bytes c.bytes.result.now, length-append c.push.new.self.bytes (codes "="));
}

pub returns-in-Bound : goal.returns-in-Bound
returns-in-Bound c =
    let first : c.push.new.self ≡ extended c.args.text.now (name_of c.args.name) = subst (λ (x : List ℕ). c.push.new.self ≡ extended c.args.text.now x) c.bytes.ensures.value c.push.ensures in
    let told = c.write_form.ensures in
    record {
      told = rw c.in-Bound.is (behind_two c.args.text.now c.push.new.self c.push-in-Bound.new.self c.write_form.new.text (name_of c.args.name) (codes "=") first c.push-in-Bound.ensures c.write_form.result (text (face (form_tree (map name_of c.args.names.now) (value_of c.in-Bound.constant) (entries_of c.in-Bound.coefs)))) told.told);
      short = short_behind c.args.text.now c.push.new.self c.push-in-Bound.new.self c.write_form.new.text (name_of c.args.name) (codes "=") first c.push-in-Bound.ensures c.write_form.result (subst (λ (x : List ℕ). length x ≤ 7) c.bytes.ensures.value c.bytes.ensures.name.short) (omega arith) told.short;
      lacks = told.lacks;
      counted = told.undone.counted;
      as_before = told.undone.as_before;
      capacity = told.capacity ∙ ap (λ (x : Content). x.capacity) c.push-in-Bound.ensures ∙ ap (λ (x : Content). x.capacity) c.push.ensures;
      ready = told.ready;
    }
