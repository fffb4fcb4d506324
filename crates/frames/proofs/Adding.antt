-- A frame with one part more.
use Rattle.std.proofs.Common.{◌≡◌, ℕ, ◌+◌, ◌-◌, ◌<◌, List, ◌++◌, length, get_or, take, drop, replicate, sym, ap, ◌∙◌, append_assoc, arith, length-append}
use borrow.Rule.Slice.PartMut.{put_mid}
use Rattle.std.proofs.lemmas.List.{take_at, drop_at, drop-replicate, take_more, flat_map_more}
use Rattle.std.specs.List.{flat_map}
use Rattle.frames.specs.Sizes.{most_bytes}
use Rattle.frames.specs.Answers.{framed, bytes_of}
use Rattle.frames.specs.declared.hold.Frame.{Frame}

pub frame_made : (bytes : List ℕ) (n : ℕ) (bs : List ℕ) → bytes ≡ bs ++ replicate (most_bytes - length bs) 0 → n ≡ length bs → let r : Frame = record { bytes = bytes; len = n } in r ≡ framed bs
unfolding framed
frame_made bytes n bs e l =
    ap (λ (xs : List ℕ). let r : Frame = record { bytes = xs; len = n } in r) e
    ∙ ap (λ (k : ℕ). let r : Frame = record { bytes = bs ++ replicate (most_bytes - length bs) 0; len = k } in r) l

frame_bytes : (f : Frame) (bs : List ℕ) → f ≡ framed bs → (f.bytes ≡ bs ++ replicate (most_bytes - length bs) 0) × (f.len ≡ length bs)
unfolding framed
frame_bytes f bs e = (ap (λ (x : Frame). x.bytes) e, ap (λ (x : Frame). x.len) e)

-- k bytes from `len` on are written over with a part
pub added : (f : Frame) (bs ps ys : List ℕ) (n k : ℕ) → f ≡ framed bs → k ≡ length ps → ys ≡ ps → n ≡ f.len + length ps → let r : Frame = record { bytes = put_mid f.len k f.bytes ys; len = n } in r ≡ framed (bs ++ ps)
added f bs ps ys n k e l y s =
    let p = frame_bytes f bs e in
    let z : List ℕ = replicate (most_bytes - length bs) 0 in
    let t : take f.len f.bytes ≡ bs = ap (take f.len) p.0 ∙ take_at bs z f.len (sym p.1) in
    let d : drop f.len f.bytes ≡ z = ap (drop f.len) p.0 ∙ drop_at bs z f.len (sym p.1) in
    let r : drop k (drop f.len f.bytes) ≡ replicate (most_bytes - length bs - k) 0 = ap (drop k) d ∙ drop-replicate k (most_bytes - length bs) 0 in
    let q : most_bytes - length bs - k ≡ most_bytes - length (bs ++ ps) = simp length-append (omega arith) in
    frame_made (put_mid f.len k f.bytes ys) n (bs ++ ps) (rw (t, r, y, q) (sym (append_assoc bs ps _))) (simp length-append (omega arith))

-- one thing more of a list whose things are added one by one
pub joined_step : {X : Type 0} (f : X → List ℕ) (bs : List ℕ) (xs : List X) (i : ℕ) (d : X) (y : List ℕ) → i < length xs → y ≡ f (get_or xs i d) → (bs ++ flat_map f (take i xs)) ++ y ≡ bs ++ flat_map f (take (i + 1) xs)
joined_step f bs xs i d y h e = rw (e, take_more xs i d h) (flat_map_more f bs (take i xs) (get_or xs i d))

-- the bytes that a frame shows
pub shown-bytes : (f : Frame) (bs : List ℕ) → f ≡ framed bs → bytes_of f ≡ bs
shown-bytes f bs e = let p = frame_bytes f bs e in ap (take f.len) p.0 ∙ take_at bs _ f.len (sym p.1)
