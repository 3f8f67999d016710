use Rattle.node_pool.proofs.Shared.{List, ℕ, ap, arith, get_or, length, ◌+◌, ◌<◌, ◌≡◌, Contents, IsBoundary, IsLaid, bytes_in, contents_of, first_of, has_short_form}
use Rattle.node_pool.proofs.{Shared.{kind_of_payload, since, used}, Fields.{IsCoded, coded, has_room, stored}}
use Rattle.node_pool.specs.declared.buffer.Buffer.TheInside.{Inside}
use Rattle.node_pool.proofs.buffer.Buffer.size_in.Goals as goal

room : (b : Inside) (c : Contents) (bytes : List ℕ) (at : ℕ) → IsLaid b → contents_of b ≡ c → bytes ≡ bytes_in c → IsBoundary at c.nodes → at < used c.nodes → at + 1 < length bytes
room b c bytes at k e h place lt = omega (arith, ap length (stored b c bytes k e h), has_room b c at k e place lt)

both : (b : Inside) (c : Contents) (bytes : List ℕ) (at : ℕ) → IsLaid b → contents_of b ≡ c → bytes ≡ bytes_in c → IsBoundary at c.nodes → at < used c.nodes → IsCoded (get_or bytes at 0) (get_or bytes (at + 1) 0) at c.nodes
both b c bytes at k e h place lt = rw (stored b c bytes k e h) (coded b c at k e place lt)

pub bounds-bytes-place-2 : goal.bounds-bytes-place-2
bounds-bytes-place-2 c = room c.self.inside c.args.self.now c.args.bytes.now c.args.at c.self.invariant c.self.view_is c.requires.bytes c.requires.boundary c.requires.inside

pub returns : goal.returns
returns c =
    let n = first_of (since c.args.at c.args.self.now.nodes) in
    let x = both c.self.inside c.args.self.now c.args.bytes.now c.args.at c.self.invariant c.self.view_is c.requires.bytes c.requires.boundary c.requires.inside in
    c.size_by_code.ensures (kind_of_payload n.payload) (has_short_form n.payload) x.code x.form
