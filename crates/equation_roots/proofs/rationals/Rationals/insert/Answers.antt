use Rattle.std.proofs.Common.{map, sym, ap, subst, take, drop, ◌∙◌, rules}
use Rattle.std.proofs.lemmas.List.{take-append-drop}
use Rattle.calc_terms.specs.Rat.{value_of}
use Rattle.equation_roots.specs.{Factorings.{AreRising}, Rationals.{rationals_of}, declared.rationals.Entry.{Entry}}
use Rattle.equation_roots.proofs.Rising.{map_insert, rising_inserted}
use Rattle.equation_roots.proofs.rationals.Rationals.insert.Goals as goal

pub invariant_of-self : goal.invariant_of-self
invariant_of-self c =
    let r : AreRising (rationals_of c.args.self.now) = search rules in
    record {
      rising =
          subst AreRising (sym (ap (map (λ (e : Entry). value_of e.value)) c.insert.ensures.items ∙ map_insert (λ (e : Entry). value_of e.value) c.args.self.now.entries.items c.place-at.result _))
          (rising_inserted (value_of c.args.q) (rationals_of c.args.self.now) c.place-at.result r c.place-at.ensures.within c.place-at.ensures.before c.place-at.ensures.after);
    }

pub returns : goal.returns
returns c = record {
  front = take c.place-at.result (rationals_of c.args.self.now);
  back = drop c.place-at.result (rationals_of c.args.self.now);
  before = sym (take-append-drop c.place-at.result (rationals_of c.args.self.now));
  after = ap (map (λ (e : Entry). value_of e.value)) c.insert.ensures.items ∙ map_insert (λ (e : Entry). value_of e.value) c.args.self.now.entries.items c.place-at.result _;
}
