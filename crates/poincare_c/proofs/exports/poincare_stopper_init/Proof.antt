-- A closed slot is written to the room.
use Rattle.poincare_c.proofs.Shared.{List, [], ◌∷◌, ◌++◌, refl, proved, full_share, id⊢, ftrue, fsep, fex, Val, vunit, WpFn, ‵, raw, ◌⊛◌, some, later, prop, ◌$◌, ◌∵◌, !, qed, done, move, keep, drop}
use Rattle.poincare_c.proofs.Shared.{use1, use2, split, join, fjoin, fpack, feq_i, pick, await, regoal, suffices, group, init, assigns, of_opd, unit_lit, stop, no_more, returns, enter, alloc_all}
use Rattle.poincare_c.proofs.Shared.{pass_all, free_all, look_at, get, through, sets, lands_as, fact, tables, RawPtr, yes, Is, shows, part_at, cell_at, Ptr, room_at, block_ptr, rawptr_vals}
use Rattle.poincare_c.proofs.Shared.{rawptr_Tells, in_a_block, plain, nothing, heard, peeks, calls_at, lasts, on_entry, triple_of, framed, Stays, walk_of, stay_dropped, Goes-dropped, ends_at}
use Rattle.poincare_c.proofs.{Shared.{holds_stopper, IsNewStopper, StopperSlot}, stopper_slot.StopperSlot.TheLaws.{mir as slot_mir, the_loose}, stopper_slot.StopperSlot.new.Met.{met}}
use Rattle.poincare_c.proofs.exports.poincare_stopper_init.Statement.{statement}
use denote.Memory.{part_of}
use Rattle.poincare_c.specs.contracts.stopper_slot.StopperSlot.{the_row, the_type}
use denote.Struct.Loose as loose
use Rattle.poincare_c.specs.contracts.stopper_slot.StopperSlot.new as g
use Rattle.poincare_c.specs.contracts.exports.poincare_stopper_init as f
use Rattle.poincare_c.proofs.exports.poincare_stopper_init.Code as code

abbrev stayed : Stays f.ended.signature.params f.ended.kept
stayed = (stay_dropped (plain (λ _. RawPtr)) yes, tt)

pub poincare_stopper_init_spec : {M : Type 1} → statement M
unfolding part_of
poincare_stopper_init_spec 𝓤 𝓛 𝓜 𝓡 wired =
    let c = f.clauses 𝓛 𝓜.mem 𝓡.returns in let W = walk_of 𝓛 f.ended stayed c in let 𝓣 = tables 𝓤 𝓛.H 𝓜 𝓡 𝓡.env in
    proved 𝓛 f.ended stayed c 𝓜 𝓡 (Goes-dropped 𝓛 0 (plain (λ _. RawPtr)) yes (λ κs x w. refl), tt)
    f.Key.name code.function (code.unfolded 𝓤 𝓛.H 𝓜 𝓡 wired)
    (λ κs. (rawptr_vals, tt)) (λ κs. (rawptr_Tells, tt))
    (λ κs qs bounds a _ are.
    let y : Ptr → W.Ghost = λ p. ((κs, qs, bounds, (p, tt), (rawptr_vals p, tt)), tt) in
    qed 𝓛 (raw (on_entry 𝓛 f.signature κs qs a (rawptr_vals a.0, tt)) ∷ ‵ (room_at the_row a.0) ∷ []) ∵ drop ! $
    in_a_block ! a.0 (λ p. room_at the_row p) (id⊢ 𝓤 _) (λ b o e.
    regoal ! (λ p. prop (WpFn 𝓤 𝓛.H 𝓣.C 𝓣.Λ code.function (rawptr_vals p ++ []) (W.post (y p)))) e refl $
    enter ! _ _ _ _ _ $ alloc_all ! (λ l. pass_all ! refl ((tt, tt), tt) $
    let G = triple_of 𝓛 g.signature (g.spec 𝓛 𝓜.mem 𝓡.returns) in let z : G.Ghost = ((tt, tt, tt, tt, tt), tt) in
    nothing ! $ nothing ! $ join ! $ nothing ! $ move ! (1 ∷ 0 ∷ []) $ use2 𝓛 (raw (G.pre z)) (id⊢ 𝓤 _) $
    calls_at ! (framed 𝓤 𝓛.H 𝓜 𝓣) G (met 𝓤 𝓛 𝓜 𝓡 (code.calls-poincare_c::stopper_slot::StopperSlot::new 𝓡.env wired)) z (no_more !) (λ v.
    use1 𝓛 (later (some (λ (r : StopperSlot). (‵ ftrue ⊛ ‵ (the_row.own_val r (v ∷ []))) ⊛ some (λ (ws : Unit {0}). ‵ (lasts g.ended z.0.0 z.0.3 ws) ⊛ raw (fact 𝓤 (IsNewStopper r)))))) (id⊢ 𝓤 _) $
    await ! tt $ pick ! (λ r. split ! $ split ! $ drop ! $
    move ! (1 ∷ []) $ pick ! (λ ws. split ! $ drop ! $ heard ! (IsNewStopper r) (λ told.
    -- [what the slot owns; the room; the locals]
    peeks ! the_row (Is the_row) (shows 𝓛 the_row) r (v ∷ []) (λ is. let good = ((loose.loose_lawful the_type the_loose 𝓛).typed r (v ∷ []) is).0 in
    lands_as ! refl refl good $ sets ! (of_opd ! (get ! refl)) refl (tt, tt) $ sets ! (of_opd ! (get ! refl)) refl good $
    assigns ! (of_opd ! (get ! refl)) (through ! refl (stop !)) (init ! 1 refl good) $
    sets ! (of_opd ! (unit_lit !)) refl (tt, tt) $
    returns ! (look_at ! 0 refl) $ free_all ! refl $
    move ! (1 ∷ []) $ use1 𝓛 (‵ (cell_at full_share the_row.mir (v ∷ []) b o)) (𝓛.laws.at_raw full_share slot_mir b o v) $ keep ! (0 ∷ 1 ∷ []) $ fjoin ! $
    fpack ! (List Val) (λ vs. fsep (cell_at full_share the_row.mir vs b o) (the_row.own_val r vs)) (v ∷ []) $
    use1 𝓛 (‵ (part_at the_row full_share r b o)) (id⊢ 𝓤 _) $
    nothing ! $ fpack ! (IsNewStopper r) (λ _. ftrue) told $ move ! (1 ∷ 0 ∷ []) $ fjoin ! $
    fpack ! StopperSlot (λ x. fsep (holds_stopper (block_ptr b o) x) (fex (IsNewStopper x) (λ _. ftrue))) r $
    suffices ! _ (ends_at 𝓛 f.ended stayed c (y (block_ptr b o)) vunit tt (tt, tt) (tt, tt)) $
    feq_i ! _ (vunit ∷ []) _ refl $ nothing ! $ nothing ! $ join ! $ nothing ! $ group ! 3 $ done !))))))))
