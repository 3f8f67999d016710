use Rattle.beautify.proofs.{Shared.{rules, ◌≡◌, ℕ, length, sym, subst, refl, arith, Some, Option, Forest, Gives, more, none, forest, keeps_after}, Drafting.{IsJoining, started, joined, all_joined}}
use Rattle.std.specs.Option.{IsSome}
use Rattle.beautify.proofs.draft.join_notes.Goals as goal

pub loop-noted-init : goal.loop-noted-init
loop-noted-init c = record { joining = λ base t d. started d; kept = record { size = refl; refusals = refl; last_refused = refl }; capacity = omega arith; stands = c.requires.stands }

pub adopt-requires : goal.adopt-requires
adopt-requires c =
    let d = c.requires.draft in
    record {
      root = (joined c.in-Some.noted (c.loop-noted.invariant.joining d.0 d.1 d.2) c.in-Some.ensures.items).root;
      within = (joined c.in-Some.noted (c.loop-noted.invariant.joining d.0 d.1 d.2) c.in-Some.ensures.items).within;
      stands = search rules;
    }

pub loop-noted-preserved : goal.loop-noted-preserved
loop-noted-preserved c =
    record {
      joining = λ base t d. subst (λ (f : Forest). IsJoining base (more t none) c.pop.new.self.items f (Some c.in-Some.noted.node)) (sym c.adopt.ensures.forest)
          (joined c.in-Some.noted (c.loop-noted.invariant.joining base t d) c.in-Some.ensures.items).next;
      kept = keeps_after c.args.pool.now c.loop-noted.pool c.adopt.new.pool c.loop-noted.invariant.kept c.adopt.ensures.kept;
      capacity = omega (arith, c.loop-noted.invariant.capacity, c.pop.ensures.capacity);
      stands = c.adopt.ensures.stands;
    }

pub unwrap-requires : goal.unwrap-requires
unwrap-requires c =
    let d = c.requires.draft in
    let z : length c.loop-noted.notes.items ≡ 0 = omega (arith, c.in_default.ensures.cases.0, c.loop-noted.notes.ok.0) in
    let all = all_joined (c.loop-noted.invariant.joining d.0 d.1 d.2) z in
    subst (λ (o : Option ℕ). IsSome o) (sym all.root-is) refl

pub returns-clause-ok : goal.returns-clause-ok
returns-clause-ok c base t d =
    let z : length c.loop-noted.notes.items ≡ 0 = omega (arith, c.in_default.ensures.cases.0, c.loop-noted.notes.ok.0) in
    let all = all_joined (c.loop-noted.invariant.joining base t d) z in
    let id-is : all.id ≡ c.unwrap.result = cc (all.root-is, c.unwrap.ensures) in
    subst (λ (i : ℕ). Gives base (forest c.loop-noted.pool) i (λ u. u ≡ t)) id-is all.gives-it
