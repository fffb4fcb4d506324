-- Every frame in the air reads back as its message. Assumes nothing.
use Rattle.std.proofs.Common.{◌≡◌, ℕ, Bool, List, [], ◌∷◌, map, Some, sym, refl, ap, ◌∙◌, subst, inl, inr}
use Rattle.clocks.specs.declared.Content.{Content}
use Rattle.laws.specs.Lists.{In}
use Rattle.laws.specs.Net.{Message, Net}
use Rattle.laws.specs.Words.{Event}
use Rattle.laws.specs.Rules as rules
use Rattle.laws.specs.State.{Visible, new}
use Rattle.laws.specs.Rules.{Step, Run}
use Rattle.laws.specs.Frames.{Fit, Codec, Framed, ReadAs, CallsOk, framed, RunF, start, then, FramesCarry}
use Rattle.laws.proofs.Lawful.{laws_stand}
use Rattle.laws.proofs.Fits.{numbers_in_range}

-- what is visible, of frames and the messages that they carry
abbrev of_frames : Framed → List Message → Visible
of_frames f ms = record { begun = f.begun; last = f.last; records = f.records; clocks = f.clocks; book = f.book; held = f.held; air = ms; readings = f.readings }

module _ (net : Net) (ok : Content → Bool) (codec : Codec net ok) where
  read_same : (ms ns : List Message) → ((m : Message) → In m ms → Fit net ok m) → ReadAs codec.read_of (map codec.frame_of ms) ns → ns ≡ ms
  read_same [] [] f r = refl
  read_same [] (n ∷ ns) f r = absurd r
  read_same (m ∷ ms) [] f r = absurd r
  read_same (m ∷ ms) (n ∷ ns) f r =
      let e : Some n ≡ Some m = sym r.0 ∙ codec.back m (f m (inl refl)) in
      let h : n ≡ m = cc e in
      let t : ns ≡ ms = read_same ms ns (λ x q. f x (inr q)) r.1 in
      cc (h, t)

  in_frames : (ms : List Message) (b : List ℕ) → In b (map codec.frame_of ms) → (m : Message) × In m ms × (b ≡ codec.frame_of m)
  in_frames [] b h = absurd h
  in_frames (m ∷ ms) b (inl e) = (m, inl refl, e)
  in_frames (m ∷ ms) b (inr h) = let r = in_frames ms b h in (r.0, inr r.1, r.2)

  behind : (h : List Event) (f : Framed) → CallsOk ok h → RunF net ok codec h f → (v : Visible) × Run net h v × (f ≡ framed net ok codec v)
  behind _ _ y start = (new, rules.start, refl)
  behind _ _ y (then {h = h} {f = f} {c = c} {a = a} r x) =
      let ih = behind h f y.1 r in
      let v = ih.0 in
      let frames : f.frames ≡ map codec.frame_of v.air = ap (λ (g : Framed). g.frames) ih.2 in
      let air : x.before.air ≡ v.air = read_same v.air x.before.air (numbers_in_range net h v ih.1 ok y.1).air (subst (λ (bs : List (List ℕ)). ReadAs codec.read_of bs x.before.air) frames x.read) in
      let same : x.before ≡ v = ap (λ (g : Framed). of_frames g x.before.air) (sym x.same ∙ ih.2) ∙ ap (of_frames (framed net ok codec v)) air in
      (x.after, rules.then ih.1 (subst (λ (w : Visible). Step net w x.after c a) same x.step), x.written)

pub frames_carry : FramesCarry
frames_carry net ok codec h f y r =
    let b = behind net ok codec h f y r in
    let v = b.0 in
    record {
      seen = v;
      run = b.1;
      shown = b.2;
      laws = laws_stand net h v b.1;
      carried = λ bs q.
          let x = in_frames net ok codec v.air bs (subst (λ (g : Framed). In bs g.frames) b.2 q) in
          (x.0, x.1, x.2, ap codec.read_of x.2 ∙ codec.back x.0 ((numbers_in_range net h v b.1 ok y).air x.0 x.1));
    }
