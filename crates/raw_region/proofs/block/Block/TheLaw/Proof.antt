-- A `&` to a block shows its bytes. Assumes `Logic`.
use Rattle.raw_region.proofs.Shared.{RattleType, u8, RawPtr, copy_shared, field_copy, Ghosts, Laws, Sharable, Shares-less, RawPtr-field, u8-field, usize-field, RawPtr-copy, u8-copy, usize-copy}
use Rattle.raw_region.proofs.{Shared.{of_Lends, ⊑_static}, block.Block.TheLaw.Statement.{statement}, Blocks.{shows_laws, Lends-block}}
use Rattle.core.specs.contracts.marker.PhantomData as marker
use Rattle.raw_region.specs.contracts.block.Block as C

pub shares : (A : RattleType) (g : Ghosts A.Denot) (L : Laws A) → statement A g L
shares A g L =
    let byte : Sharable u8-field = copy_shared u8-field u8-copy in
    of_Lends (C.struct A g) (C.the_codes A.Denot A.coded (marker.the_row RawPtr).coded) (C.the_heap A g) (C.the_lent A g) (λ d p. shows_laws d.start d.len d.bytes)
    (copy_shared RawPtr-field RawPtr-copy, (copy_shared usize-field usize-copy, (copy_shared (marker.the_field RawPtr) (field_copy (marker.the_type RawPtr) tt), tt)))
    (λ M 𝓤 𝓛 d p. let l = (C.the_row A g).lives in Lends-block 𝓛 l (Shares-less 𝓛 u8 u8.lives l (⊑_static l) (byte.shares M 𝓤 𝓛)) (g.dealloc_token d.alloc) d.start d.len d.bytes)
