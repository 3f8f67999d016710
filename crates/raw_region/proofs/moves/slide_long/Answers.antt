use Rattle.raw_region.proofs.{Shared.{ℕ, ◌+◌, ◌-◌, ◌≤◌, ◌≡◌, ◌∙◌, arith, ap, slid}, Slides.{slid_after, slid_before, slid_none}}
use Rattle.raw_region.proofs.moves.slide_long.Goals as goal

pub returns-then-len-eq0 : goal.returns-then-len-eq0
returns-then-len-eq0 c = grind (arith, slid_none)

pub returns-then-to-from : goal.returns-then-to-from
returns-then-to-from c =
    let xs = c.args.bytes.now in let a = c.args.from in let b = c.args.to in let len = c.args.len in
    let one = c.slide_down-done.ensures in let two = c.slide_down-half.ensures in let three = c.slide_down-more.ensures in let four = c.slide_down.ensures in
    let i = c.slide_down-done.result in let j = c.slide_down-half.result in let k = c.slide_down-more.result in let l = c.slide_down.result in
    let first : i + j ≤ len = omega (arith, one.within, two.within) in
    let second : i + j + k ≤ len = omega (arith, first, three.within) in
    let all : i + j + k + l ≡ len = omega (arith, second, four.within, four.most) in
    let both = two.moved ∙ slid_after xs c.slide_down-done.new.bytes a b i j c.if-to-from.true (omega (arith, first, c.requires.source)) one.moved in
    let most = three.moved ∙ slid_after xs c.slide_down-half.new.bytes a b (i + j) k c.if-to-from.true (omega (arith, second, c.requires.source)) both in
    four.moved ∙ slid_after xs c.slide_down-more.new.bytes a b (i + j + k) l c.if-to-from.true (omega (arith, all, c.requires.source)) most ∙ ap (slid xs a b) all

pub returns-else-to-from : goal.returns-else-to-from
returns-else-to-from c =
    let xs = c.args.bytes.now in let a = c.args.from in let b = c.args.to in let len = c.args.len in
    let one = c.slide_up-left.ensures in let two = c.slide_up-left-else-to-from.ensures in let three = c.slide_up-left-else-to-from-2.ensures in let four = c.slide_up.ensures in
    let i = c.slide_up-left.result in let j = c.slide_up-left-else-to-from.result in let k = c.slide_up-left-else-to-from-2.result in let l = c.slide_up.result in
    let up : a ≤ b = omega (arith, c.if-to-from.false) in
    let first : j ≤ len = omega (arith, one.within, two.within) in
    let second : k ≤ len = omega (arith, first, three.within) in
    let none : l ≡ 0 = omega (arith, four.most) in
    let from : a + l ≡ a = omega (arith, none) in
    let to : b + l ≡ b = omega (arith, none) in
    let whole : len - l ≡ len = omega (arith, none) in
    let both = two.moved ∙ slid_before xs c.slide_up-left.new.bytes a b len i j up c.requires.target one.within two.within one.moved in
    let most = three.moved ∙ slid_before xs c.slide_up-left-else-to-from.new.bytes a b len j k up c.requires.target first three.within both in
    four.moved ∙ slid_before xs c.slide_up-left-else-to-from-2.new.bytes a b len k l up c.requires.target second four.within most
    ∙ ap (λ (n : ℕ). slid xs n (b + l) (len - l)) from ∙ ap (λ (n : ℕ). slid xs a n (len - l)) to ∙ ap (slid xs a b) whole
