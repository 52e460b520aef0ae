-- A side and the unit are sound forms: they carry what is fit and of its shape, and nothing else.
use mathlib.Core.Path.{◌≡◌, refl, sym, ap, subst}
use mathlib.Core.Bool.{Bool, true, false}
use mathlib.Core.List.{List, [], ◌∷◌, ◌++◌}
use Prim.Native.Nat.{ℕ, zero, suc, ◌+◌, ◌-◌}
use native.Mathlib.Omega.{arith}
use lib.IntN.{ℤ}
use lib.ListN.{length, drop, replicate}
use Rattle.lists.specs.Lists.{Each}
use Rattle.bands.specs.Bands.{band_count}
use Rattle.unit.specs.declared.BandSection.{BandSection}
use Rattle.unit.specs.declared.Channel.{Channel}
use Rattle.unit.specs.declared.Unit.{Unit}
use Rattle.unit.specs.Frame.{feedback_count}
use Rattle.unit.specs.Fit.{is_input, is_flag, VolumeFit, BandFit, SectionFit, Plain, ChannelFit, Fit}
use Rattle.unit.specs.Shaped.{TenSections, Shaped}
use Rattle.forms.specs.Form.{both}
use Rattle.forms.specs.Line.{alone}
use Rattle.forms.proofs.Sound.{Sound, Matched, both-sound, each_key, turn_sound, seen_sound}
use Rattle.forms.proofs.Line.{Passes}
use Rattle.sheet.specs.Lines.{row_at, band_letter, band_form, head_ranges, head_form, section_form}
use Rattle.sheet.specs.Sheet.{section_kinds, sections_form, SideLines, side_lines, channel_of_lines, side_form, FrontLines, front_form, unit_lines, unit_of_lines, unit_form, PlainSide, PlainUnit}
use Rattle.sheet.proofs.Lines.{volume_sound, band_sound, head_sound, SectionFits, section_sound}

-- ---- a side

abbrev SideParts : Bool → SideLines → Type 0
SideParts long p = Passes head_ranges alone p.0 × Matched SectionFits (section_kinds long) p.1

parts_sound : (long : Bool) (letter : ℕ) → Sound (both (head_form letter) (sections_form long)) (SideParts long)
parts_sound long letter =
    both-sound (head_sound letter)
    (turn_sound section_form SectionFits (section_kinds long) (each_key (λ (fifth : Bool). Sound (section_form fifth) (SectionFits fifth)) (section_kinds long) section_sound))

abbrev pub SideFits : Bool → Channel → Type 0
SideFits long c = SideParts long (side_lines c)

pub record Head (row : List ℤ) : Type 0 where
  pub x1 : is_input (row_at row 0) ≡ true
  pub x2 : is_input (row_at row 1) ≡ true
  pub flag : is_flag (row_at row 2) ≡ true
  pub same : row_at row 0 ∷ row_at row 1 ∷ row_at row 2 ∷ [] ≡ row

head_of : (row : List ℤ) → Passes head_ranges alone row → Head row
head_of (a ∷ b ∷ c ∷ []) p = record { x1 = p.inside.0; x2 = p.inside.1.0; flag = p.inside.1.1.0; same = refl }
head_of [] p = absurd p.inside
head_of (a ∷ []) p = absurd p.inside.1
head_of (a ∷ b ∷ []) p = absurd p.inside.1.1
head_of (a ∷ b ∷ c ∷ n ∷ row) p = absurd p.inside.1.1.1

side_here : (long : Bool) (p : SideLines) → SideParts long p → SideFits long (channel_of_lines p) × (side_lines (channel_of_lines p) ≡ p)
side_here long p h = (subst (SideParts long) (sym same) h, same)
  where
    same : side_lines (channel_of_lines p) ≡ p
    same = λ i. ((head_of p.0 h.0).same i, p.1)

pub side_sound : (long : Bool) (letter : ℕ) → Sound (side_form long letter) (SideFits long)
side_sound long letter = seen_sound (SideFits long) channel_of_lines side_lines (parts_sound long letter) (λ c f. (f, refl)) (side_here long)

-- ---- the unit

abbrev pub FrontFits : FrontLines → Type 0
FrontFits p = VolumeFit p.0 × Matched (λ (k : ℕ). BandFit) (replicate band_count band_letter) p.1

pub front_sound : Sound front_form FrontFits
front_sound =
    both-sound volume_sound
    (turn_sound band_form (λ (k : ℕ). BandFit) (replicate band_count band_letter) (each_key (λ (k : ℕ). Sound (band_form k) BandFit) (replicate band_count band_letter) band_sound))

abbrev pub UnitFits : Bool → List ℕ → Unit → Type 0
UnitFits long letters u = FrontFits (u.volume, u.bands) × Matched (λ (k : ℕ). SideFits long) letters u.channels

pub unit_sound : (long : Bool) (letters : List ℕ) → Sound (unit_form long letters) (UnitFits long letters)
unit_sound long letters =
    seen_sound (UnitFits long letters) unit_of_lines unit_lines
    (both-sound front_sound
    (turn_sound (side_form long) (λ (k : ℕ). SideFits long) letters (each_key (λ (k : ℕ). Sound (side_form long k) (SideFits long)) letters (side_sound long))))
    (λ u f. (f, refl))
    (λ w f. (f, refl))

-- ---- fitness

matched_each : {K A : Type 0} (P : A → Type 0) (keys : List K) (l : List A) → Matched (λ (k : K). P) keys l → (length l ≡ length keys) × Each P l
matched_each P [] [] h = (refl, tt)
matched_each P [] (a ∷ l) h = absurd h
matched_each P (k ∷ keys) [] h = absurd h
matched_each P (k ∷ keys) (a ∷ l) h =
    let more : (length l ≡ length keys) × Each P l = matched_each P keys l h.1 in
    (ap suc more.0, (h.0, more.1))

each_matched : {K A : Type 0} (P : A → Type 0) (keys : List K) (l : List A) → length l ≡ length keys → Each P l → Matched (λ (k : K). P) keys l
each_matched P [] [] e h = tt
each_matched P [] (a ∷ l) e h = absurd (omega arith)
each_matched P (k ∷ keys) [] e h = absurd (omega arith)
each_matched P (k ∷ keys) (a ∷ l) e h = (h.0, each_matched P keys l (omega arith) h.1)

each_map : {A : Type 0} {P Q : A → Type 0} → ((a : A) → P a → Q a) → (l : List A) → Each P l → Each Q l
each_map f [] h = tt
each_map f (a ∷ l) h = (f a h.0, each_map f l h.1)

each_under : {A P : Type 0} (Q : A → Type 0) (l : List A) → (P → Each Q l) → Each (λ (a : A). P → Q a) l
each_under Q [] h = tt
each_under Q (a ∷ l) h = (λ p. (h p).0, each_under Q l (λ p. (h p).1))

-- ---- fitness: sections

-- so many S lines of one kind, and so many without the fifth field
abbrev kinds : Bool → ℕ → ℕ → List Bool
kinds fifth n m = replicate n fifth ++ replicate m false

-- the sections that such lines carry
pub record SectionsFit (fifth : Bool) (n m : ℕ) (ss : List BandSection) : Type 0 where
  pub count : length ss ≡ n + m
  pub fit : Each SectionFit ss
  pub plain : Each Plain (drop n ss)
  pub plain_all : fifth ≡ false → Each Plain ss

fit_sections : (fifth : Bool) (n m : ℕ) (ss : List BandSection) → SectionsFit fifth n m ss → Matched SectionFits (kinds fifth n m) ss
fit_sections fifth zero zero [] h = tt
fit_sections fifth zero zero (s ∷ ss) h = absurd (omega (arith, h.count))
fit_sections fifth zero (suc m) [] h = absurd (omega (arith, h.count))
fit_sections fifth zero (suc m) (s ∷ ss) h = (
  record { fit = h.fit.0; plain = λ q. h.plain.0 },
  fit_sections fifth zero m ss (record { count = omega (arith, h.count); fit = h.fit.1; plain = h.plain.1; plain_all = λ q. h.plain.1 }),
)
fit_sections fifth (suc n) m [] h = absurd (omega (arith, h.count))
fit_sections fifth (suc n) m (s ∷ ss) h = (
  record { fit = h.fit.0; plain = λ q. (h.plain_all q).0 },
  fit_sections fifth n m ss (record { count = omega (arith, h.count); fit = h.fit.1; plain = h.plain; plain_all = λ q. (h.plain_all q).1 }),
)

sections_fit_lem : (fifth : Bool) (n m : ℕ) (ss : List BandSection) → Matched SectionFits (kinds fifth n m) ss → SectionsFit fifth n m ss
sections_fit_lem fifth zero zero [] h = record { count = refl; fit = tt; plain = tt; plain_all = λ q. tt }
sections_fit_lem fifth zero zero (s ∷ ss) h = absurd h
sections_fit_lem fifth zero (suc m) [] h = absurd h
sections_fit_lem fifth zero (suc m) (s ∷ ss) h =
    let more : SectionsFit fifth zero m ss = sections_fit_lem fifth zero m ss h.1 in
    record {
      count = omega (arith, more.count);
      fit = (h.0.fit, more.fit);
      plain = (h.0.plain refl, more.plain);
      plain_all = λ q. (h.0.plain refl, more.plain);
    }
sections_fit_lem fifth (suc n) m [] h = absurd h
sections_fit_lem fifth (suc n) m (s ∷ ss) h =
    let more : SectionsFit fifth n m ss = sections_fit_lem fifth n m ss h.1 in
    record {
      count = omega (arith, more.count);
      fit = (h.0.fit, more.fit);
      plain = more.plain;
      plain_all = λ q. (h.0.plain q, more.plain_all q);
    }

-- ---- fitness: a side, which has remainders in the longer sheet alone

fit_side : (long : Bool) (c : Channel) → TenSections c → ChannelFit c → (long ≡ false → PlainSide c) → SideFits long c
fit_side long c t h p = (
  record { inside = (h.x1, (h.x2, (h.flag, tt))); accepted = refl },
  fit_sections long feedback_count (band_count - feedback_count) c.sections (record { count = t; fit = h.sections; plain = h.plain; plain_all = p }),
)

pub record SideTold (long : Bool) (c : Channel) : Type 0 where
  pub ten : TenSections c
  pub fit : ChannelFit c
  pub plain : long ≡ false → PlainSide c

side_fit : (long : Bool) (c : Channel) → SideFits long c → SideTold long c
side_fit long c h =
    let told : SectionsFit long feedback_count (band_count - feedback_count) c.sections = sections_fit_lem long feedback_count (band_count - feedback_count) c.sections h.1 in
    record {
      ten = told.count;
      fit = record { x1 = h.0.inside.0; x2 = h.0.inside.1.0; flag = h.0.inside.1.1.0; sections = told.fit; plain = told.plain };
      plain = told.plain_all;
    }

-- ---- fitness: the unit

fit_sides : (long : Bool) (cs : List Channel) → Each TenSections cs → Each ChannelFit cs → Each (λ (c : Channel). long ≡ false → PlainSide c) cs → Each (SideFits long) cs
fit_sides long [] t h p = tt
fit_sides long (c ∷ cs) t h p = (fit_side long c t.0 h.0 p.0, fit_sides long cs t.1 h.1 p.1)

pub fit_unit : (long : Bool) (letters : List ℕ) (u : Unit) → Shaped (length letters) u → Fit u → (long ≡ false → PlainUnit u) → UnitFits long letters u
fit_unit long letters u s h p = (
  (h.volume, each_matched BandFit (replicate band_count band_letter) u.bands s.bands h.bands),
  each_matched (SideFits long) letters u.channels s.channels (fit_sides long u.channels s.sections h.channels (each_under PlainSide u.channels p)),
)

pub record UnitTold (long : Bool) (letters : List ℕ) (u : Unit) : Type 0 where
  pub shaped : Shaped (length letters) u
  pub fit : Fit u
  pub plain : long ≡ false → PlainUnit u

pub unit_fit : (long : Bool) (letters : List ℕ) (u : Unit) → UnitFits long letters u → UnitTold long letters u
unit_fit long letters u h =
    let bands : (length u.bands ≡ band_count) × Each BandFit u.bands =
    matched_each BandFit (replicate band_count band_letter) u.bands h.0.1
    in
    let sides : (length u.channels ≡ length letters) × Each (SideFits long) u.channels = matched_each (SideFits long) letters u.channels h.1 in
    record {
      shaped = record { bands = bands.0; channels = sides.0; sections = each_map (λ c f. (side_fit long c f).ten) u.channels sides.1 };
      fit = record { volume = h.0.0; bands = bands.1; channels = each_map (λ c f. (side_fit long c f).fit) u.channels sides.1 };
      plain = λ q. each_map (λ c f. (side_fit long c f).plain q) u.channels sides.1;
    }
