-- What is known of a result, in other words.
use Rattle.std.proofs.Common.{arith}
use Rattle.std.specs.Prelude.{Result, Option, IfSome, MatchOption, OnOk}

pub on_ok_map : {A E P Q : Type 0} (r : Result A E) → OnOk r P → (P → Q) → OnOk r Q
on_ok_map r h f = grind arith

pub if_some_given : {A P : Type 0} (r : Option A) → P → IfSome r (λ x. P)
if_some_given r h = grind arith

pub match_option_given : {A : Type 0} (P R : Type 0) (Q S : A → Type 0) (r : Option A) → R → ((x : A) → Q x → S x) → MatchOption r P Q → MatchOption r R S
match_option_given P R Q S r g f h = grind arith
