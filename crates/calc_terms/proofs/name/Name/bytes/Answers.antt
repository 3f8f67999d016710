use Rattle.calc_terms.proofs.{Shared.{sym, refl, subst, true, IsName}, Names.{front, in_words}}
use Rattle.calc_terms.proofs.name.Name.bytes.Goals as goal

pub returns-clause-value : goal.returns-clause-value
returns-clause-value c = front c.args.self.now.text c.len.result c.args.self.now.holds_name c.len.ensures

pub returns-clause-name : goal.returns-clause-name
returns-clause-name c =
    let h = c.args.self.now.holds_name in
    subst IsName (sym (front c.args.self.now.text c.len.result h c.len.ensures)) ((in_words _ true (sym h.name)).0 refl)
