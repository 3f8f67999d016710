-- What a block's owner owns and shows.
use Rattle.std.specs.Prelude.{ℕ, ◌+◌, ◌-◌, ◌^◌, List, length}
use base.Fraction.{full_share}
use base.Fml.{Lft, Fml, ffalse, fsep, flt, froom}
use mir.Syntax.{Ty, w8, ty_int, ty_array}
use mir.Raw.{raw}
use denote.Builtin.{u8}
use denote.RawPtr.{Ptr, block_ptr, null_ptr}
use denote.RawPtr.Bytes.{bytes}
use denote.Sharing.{said, beside}
use denote.Slice.{elements_shared}

abbrev pub byte : Ty
byte = ty_int w8

-- len is fewer than 2 ^ 63 bytes, and xs are no more than those
abbrev pub fits : ℕ → List ℕ → Fml
fits len xs = fsep (flt (length xs) (len + 1)) (flt len (2 ^ 63))

-- the len bytes at p, of which xs are written and the rest is room, and the allocator's token for them
abbrev pub block_owns : (Ty → Ptr → Fml) → Ptr → ℕ → List ℕ → Fml
block_owns token (block_ptr b o) len xs = fsep (fits len xs) (fsep (bytes full_share xs b o) (fsep (froom (ty_array byte (len - length xs)) b (o + length xs)) (token (raw (ty_array byte len)) (block_ptr b o))))
block_owns token null_ptr len xs = ffalse

-- the bytes that are written
abbrev pub block_shows : Ptr → ℕ → List ℕ → Lft → Fml
block_shows (block_ptr b o) len xs = beside (said (fits len xs)) (elements_shared u8 xs b o)
block_shows null_ptr len xs = said ffalse
