use Rattle.pool_layouts.proofs.Shared.{◌≡◌, ◌∙◌, ◌∷◌, [], Ok, ap, refl, rules, size_of_payload, free_of, taking, before_last, payload_in, forest, IsStopped, around_sizes, root_sizes, laid, was_short}
use Rattle.pool_layouts.proofs.{Sizes.{takes_one}, Placing.{free_after, room_after, stopped_after, stopped_one, starts_ends, starts_before}}
use Rattle.pool_layouts.proofs.laying.close.Goals as goal

refused : (c : goal.After-from_residual)
    → IsStopped (before_last c.args.frame.parts (forest c.args.pool.now))
    (root_sizes (payload_in c.args.frame.id (forest c.args.pool.now)) c.args.frame.around) c.args.pool.now c.place_root.new.pool c.in_err-root.field-0.0
refused c =
    let x = payload_in c.args.frame.id (forest c.args.pool.now) in
    stopped_one c.args.pool.now c.place_root.new.pool (before_last c.args.frame.parts (forest c.args.pool.now)) (size_of_payload (laid x))
    (around_sizes c.args.frame.around) c.in_err-root.field-0.0 c.in_err-root.ensures.full
    (was_short c.in_err-root.field-0.0 (size_of_payload (laid x)) (free_of c.args.pool.now) c.in_err-root.ensures.exactly.1) (starts_before c.args.frame.parts (forest c.args.pool.now))

pub returns-in_err-root-clause-full : goal.returns-in_err-root-clause-full
returns-in_err-root-clause-full c = let h = refused c in search (rules, h)

taken : (c : goal.After-stand_in) → taking (free_of c.args.pool.now) (size_of_payload (laid (payload_in c.args.frame.id (forest c.args.pool.now))) ∷ []) ≡ Ok (free_of c.place_root.new.pool)
taken c =
    let x = laid (payload_in c.args.frame.id (forest c.args.pool.now)) in
    takes_one (free_of c.args.pool.now) (size_of_payload x) (c.in_ok-root.ensures.exactly.0 refl)
    ∙ ap Ok (free_after c.args.pool.now c.place_root.new.pool c.args.frame.parts c.in_ok-root.root x c.requires.stands c.place_root.ensures.stands c.in_ok-root.ensures.kept c.in_ok-root.ensures.ok)

pub returns-clause-room : goal.returns-clause-room
returns-clause-room c =
    let x = laid (payload_in c.args.frame.id (forest c.args.pool.now)) in
    room_after (free_of c.args.pool.now) (free_of c.place_root.new.pool) (free_of c.stand_in.new.pool) (size_of_payload x) (around_sizes c.args.frame.around) c.stand_in.result
    (taken c) c.stand_in.ensures.room

pub returns-clause-full : goal.returns-clause-full
returns-clause-full c =
    let x = laid (payload_in c.args.frame.id (forest c.args.pool.now)) in
    stopped_after c.args.pool.now c.place_root.new.pool c.stand_in.new.pool (before_last c.args.frame.parts (forest c.args.pool.now)) (size_of_payload x)
    (around_sizes c.args.frame.around) c.stand_in.result (taken c) c.in_ok-root.ensures.kept (starts_ends c.in_ok-root.ensures.ok) c.stand_in.ensures.full
