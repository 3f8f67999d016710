use Rattle.std.proofs.Common.{◌-◌, pos, get_or, sym, ap, ◌∙◌}
use Rattle.equation_roots.specs.Told.{wholes_of}
use Rattle.equation_roots.proofs.{Linear.{leading-at}, Wide.{told}}
use Rattle.equation_roots.proofs.wholes.Wholes.leading.Goals as goal

pub returns-clause-value : goal.returns-clause-value
returns-clause-value c =
    told c.get.result c.get.ensures.fits ∙ c.get.ensures.value ∙ ap (λ n. get_or (wholes_of c.args.self.now) (n - 1) (pos 0)) c.len.ensures.value
    ∙ sym (leading-at (wholes_of c.args.self.now) c.requires)
