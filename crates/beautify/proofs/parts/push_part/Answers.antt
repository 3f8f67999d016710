use Rattle.beautify.proofs.Shared.{◌+◌, ◌-◌, sym, subst, Form, Owes, in_form, form_room, more, plain, tree_at, forest}
use Rattle.beautify.proofs.parts.push_part.Goals as goal

pub returns-in-Face-clause-owed : goal.returns-in-Face-clause-owed
returns-in-Face-clause-owed c us r o =
    let t = plain (tree_at c.args.tree (forest c.args.pool.now)) in
    subst (λ (form : Form). Owes c.push_face.new.pending.items (forest c.args.pool.now) (more (in_form form t) us) (r + form_room form t - 1)) (sym c.in-Face.is) (c.push_face.ensures.owed us r o)

pub returns-in-Unsigned-clause-owed : goal.returns-in-Unsigned-clause-owed
returns-in-Unsigned-clause-owed c us r o =
    let t = plain (tree_at c.args.tree (forest c.args.pool.now)) in
    subst (λ (form : Form). Owes c.push_unsigned.new.pending.items (forest c.args.pool.now) (more (in_form form t) us) (r + form_room form t - 1)) (sym c.in-Unsigned.is) (c.push_unsigned.ensures.owed us r o)

pub returns-in-Divisor-clause-owed : goal.returns-in-Divisor-clause-owed
returns-in-Divisor-clause-owed c us r o =
    let t = plain (tree_at c.args.tree (forest c.args.pool.now)) in
    subst (λ (form : Form). Owes c.push_divisor.new.pending.items (forest c.args.pool.now) (more (in_form form t) us) (r + form_room form t - 1)) (sym c.in-Divisor.is) (c.push_divisor.ensures.owed us r o)
