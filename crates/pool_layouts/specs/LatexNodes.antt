-- What the LaTeX text of a layout has of each of its nodes: before the node's parts, between them, and after them.
use Rattle.std.specs.Prelude.{ℕ, List, [], ◌==◌, if◌then◌else◌, nat_abs, codes}
use Rattle.calc_language.specs.Texts.{decimal}
use Rattle.calc_terms.specs.declared.kind.Kind.{Kind}
use Rattle.calc_terms.specs.declared.kind.Kind.TheVariants as kind
use Rattle.calc_terms.specs.Payload.{Payload, rational, named, bare}
use Rattle.pool_layouts.specs.Latex.{latex_name}

abbrev pub kind_front : Kind → List ℕ
kind_front kind.Plus = codes "+"
kind_front kind.Minus = codes "-"
kind_front kind.Times = codes " \\times "
kind_front kind.Fraction = codes "\\frac{"
kind_front kind.Raised = codes "^{"
kind_front kind.Radical = codes "\\sqrt{"
kind_front kind.Paren = codes "\\left("
kind_front k = []

-- before the parts of a node that holds this
abbrev pub latex_front : Payload → List ℕ
latex_front (rational r) = decimal (nat_abs r.num)
latex_front (named x) = latex_name x
latex_front (bare k) = kind_front k

-- before a part of a node of this kind, where so many parts are left with it
abbrev pub latex_between : Kind → ℕ → List ℕ
latex_between kind.Fraction n = if n == 1 then codes "}{" else []
latex_between k n = []

-- after the parts
abbrev pub latex_close : Kind → List ℕ
latex_close kind.Fraction = codes "}"
latex_close kind.Raised = codes "}"
latex_close kind.Radical = codes "}"
latex_close kind.Paren = codes "\\right)"
latex_close k = []
