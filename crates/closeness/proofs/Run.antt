-- The unit and the exact reckoning through a list of calls: what ties them is kept by orders, refused calls and frames.
use mathlib.Core.Path.{◌≡◌, refl, sym, ap, ap₂, ◌∙◌, subst}
use mathlib.Core.Bool.{Bool, true, false, cond, ◌||◌, or_assoc, or-false}
use mathlib.Core.List.{List, [], ◌∷◌, map}
use Prim.Native.Nat.{ℕ, zero, suc, ◌+◌, ◌≤◌, ◌<◌}
use native.Mathlib.Omega.{arith}
use lib.Dec.{eqb}
use lib.IntN.{ℤ, pos}
use lib.ListN.{length, get_or}
use Rattle.lists.specs.Lists.{tabulate, changed, any_of}
use Rattle.lists.proofs.Tabulate.{each_get_d, any_append, any_snoc, tabulate-length}
use Rattle.lists.proofs.Changed.{changed-at}
use Rattle.refusals.specs.Numbers.{is_accepted}
use Rattle.bands.specs.declared.Band.{Band}
use Rattle.section.specs.Equation.{flag}
use Rattle.levels.specs.declared.Level.{Level}
use Rattle.levels.specs.Levels.{volume_slope, moved, aimed}
use Rattle.unit.specs.declared.BandSection.{BandSection}
use Rattle.unit.specs.declared.Channel.{Channel}
use Rattle.unit.specs.declared.Unit.{Unit}
use Rattle.unit.specs.Cleared.{cleared_channel}
use Rattle.unit.specs.Frame.{feeds_back, any_limits, channel_frame, unit_frame}
use Rattle.unit.specs.Shaped.{TenSections, Shaped}
use Rattle.unit.proofs.Fitness.{test_of_fit}
use Rattle.settings.specs.declared.Setting.{Setting}
use Rattle.settings.specs.Settings.{volume_band, names, target_of, order_arguments}
use Rattle.orders.specs.Orders.{aimed_section, aimed_channel, aimed_volume, aimed_band, aimed_unit, ordered}
use Rattle.orders.proofs.Laws.{order_accepts}
use Rattle.frames.specs.Bytes.{sample_at, frame_count}
use Rattle.frames.specs.Played.{played_on, block_words}
use Rattle.frames.proofs.Many.{Feeds, block_feeds, fed_shaped}
use Rattle.frames.proofs.Channel.{block_word}
use Rattle.blocks.specs.Block.{block_arguments, block_verdict, block_played, block_output}
use Rattle.blocks.proofs.Block.{block_accepted}
use Rattle.blocks.proofs.Read.{fed_channel, sample_after, output_sample}
use Rattle.calls.specs.Calls.{Call, order, block, channel_in, unit_after, handed_back, place_of, samples_of, samples}
use Rattle.calls.proofs.Kept.{Kept, call_kept}
use Rattle.closeness.specs.Claim.{limits_in, limits_of, limits, Results, Exact, exact_frame, exact_aimed, exact_played, exact_word, exact_after, exacts_of, exacts, Close}
use Rattle.closeness.proofs.Band.{NearResults}
use Rattle.closeness.proofs.Channel.{gain_of, NearAll, Tied, frame_tied, tied_close}
use Rattle.closeness.proofs.Follows.{FrameFollows, Follows, follows_append}

module _ (channels channel : ℕ) (inside : channel < channels) (bands : List Band) where
  -- the unit after n frames, and the exact reckoning of its channel
  pub record TiedUnit (n : ℕ) (limited : Bool) (u : Unit) (e : Exact) : Type 0 where
    pub bands_are : u.bands ≡ bands
    pub tied : Tied bands n limited u.volume (channel_in channel u) e

  -- counted in another way
  tied_from : {n m : ℕ} {a b : Bool} (u : Unit) (e : Exact) → n ≡ m → a ≡ b → TiedUnit n a u e → TiedUnit m b u e
  tied_from {n} {m} {a} {b} u e p q t = subst (λ (c : Bool). TiedUnit m c u e) q (subst (λ (k : ℕ). TiedUnit k a u e) p t)

  -- ---- an order

  module _ (side band : ℕ) (target : ℤ) where
    -- it leaves all results and remainders as they are; the test says which of the bands feed back, `named` which of them the order names
    aimed_near : (n : ℕ) (test named : ℕ → Bool) (bs : List Band) (ss : List BandSection) (rs : List Results) → NearAll test n bs ss rs → NearAll test n bs (changed named (aimed_section target) ss) rs
    aimed_near n test named [] [] [] near = tt
    aimed_near n test named [] [] (r ∷ rs) near = absurd near
    aimed_near n test named [] (s ∷ ss) rs near = absurd near
    aimed_near n test named (b ∷ bs) [] rs near = absurd near
    aimed_near n test named (b ∷ bs) (s ∷ ss) [] near = absurd near
    aimed_near n test named (b ∷ bs) (s ∷ ss) (r ∷ rs) near =
        (go (named 0), aimed_near n (λ (place : ℕ). test (suc place)) (λ (place : ℕ). named (suc place)) bs ss rs near.1)
      where
        go : (m : Bool) → NearResults b (test 0) n (cond m (aimed_section target s) s) r
        go true = near.0
        go false = near.0

    -- it sets the targets of the gains
    aimed_gains : (test : ℕ → Bool) (ss : List BandSection) → changed test (aimed target) (map gain_of ss) ≡ map gain_of (changed test (aimed_section target) ss)
    aimed_gains test [] = refl
    aimed_gains test (s ∷ ss) = ap₂ ◌∷◌ (go (test 0)) (aimed_gains (λ (place : ℕ). test (suc place)) ss)
      where
        go : (m : Bool) → cond m (aimed target s.gain) s.gain ≡ gain_of (cond m (aimed_section target s) s)
        go true = refl
        go false = refl

    module _ (n : ℕ) (limited : Bool) (u : Unit) (e : Exact) (kept : Kept channels u) (t : TiedUnit n limited u e) where
      abbrev c : Channel
      c = channel_in channel u

      -- the channel of a band's order, where the side names it and where not
      abbrev gains_then : Bool → List Level
      gains_then m = cond m (changed (eqb band) (aimed target) e.gains) e.gains

      named_tied : (m : Bool) → Tied bands n limited u.volume (cond m (aimed_channel band target c) c) (record { scale = e.scale; volume = e.volume; gains = gains_then m; x1 = e.x1; x2 = e.x2; results = e.results })
      named_tied true =
          record {
            scale = t.tied.scale;
            volumes = t.tied.volumes;
            gains = ap (changed (eqb band) (aimed target)) t.tied.gains ∙ aimed_gains (eqb band) c.sections;
            x1 = t.tied.x1;
            x2 = t.tied.x2;
            flags = t.tied.flags;
            near = λ h. aimed_near n feeds_back (eqb band) bands c.sections e.results (t.tied.near h);
          }
      named_tied false = t.tied

      aimed_tied : TiedUnit n limited (aimed_unit side band target u) (exact_aimed channels channel bands side band target e)
      unfolding aimed_unit
      aimed_tied = go (eqb band volume_band)
        where
          go : (v : Bool) → TiedUnit n limited (cond v (aimed_volume target u) (aimed_band side band target u)) (record { scale = e.scale; volume = cond v (aimed target e.volume) e.volume; gains = cond v e.gains (gains_then (names side channel)); x1 = e.x1; x2 = e.x2; results = e.results })
          go true = record { bands_are = t.bands_are; tied = volume_tied }
            where
              volume_tied : Tied bands n limited (aimed target u.volume) c (record { scale = e.scale; volume = aimed target e.volume; gains = e.gains; x1 = e.x1; x2 = e.x2; results = e.results })
              volume_tied =
                  record {
                    scale = t.tied.scale;
                    volumes = ap (aimed target) t.tied.volumes;
                    gains = t.tied.gains;
                    x1 = t.tied.x1;
                    x2 = t.tied.x2;
                    flags = t.tied.flags;
                    near = t.tied.near;
                  }
          go false =
              record {
                bands_are = t.bands_are;
                tied =
                    subst (λ (a : Channel). Tied bands n limited u.volume a (record { scale = e.scale; volume = e.volume; gains = gains_then (names side channel); x1 = e.x1; x2 = e.x2; results = e.results }))
                    (sym (changed-at (names side) (aimed_channel band target) u.channels cleared_channel channel (omega (arith, kept.shape.channels, inside))))
                    (named_tied (names side channel));
              }

  -- ---- frames on any words: the exact reckoning is fed those of the channel

  module _ (n : ℕ) (limited : Bool) (u : Unit) (e : Exact) (kept : Kept channels u) (t : TiedUnit n limited u e) (words : ℕ → List ℤ) (feeds : Feeds channels words) (word : ℕ → ℤ) (fed : (k : ℕ) → get_or (words k) channel (pos 0) ≡ word k) where
    -- whether a section limits in frame k, k from 0
    abbrev limits_at : ℕ → Bool
    limits_at = limits_in channel u words

    -- whether one has limited, after k of them
    abbrev limited_by : ℕ → Bool
    limited_by k = limited || any_of (tabulate k limits_at)

    abbrev exact_by : ℕ → Exact
    exact_by k = exact_played bands word e k

    -- one frame more
    played-next : (k : ℕ) → TiedUnit (n + k) (limited_by k) (played_on words u k) (exact_by k) → TiedUnit (suc (n + k)) (limited_by k || limits_at k) (played_on words u (suc k)) (exact_by (suc k))
    unfolding played_on exact_played unit_frame
    played-next k p =
        record {
          bands_are = p.bands_are;
          tied =
              subst (λ (b : Channel). Tied bands (suc (n + k)) (limited_by k || limits_at k) (moved volume_slope v.volume) b (exact_frame bands (word k) (exact_by k)))
              (sym (fed_channel words feeds u kept.shape.channels channel cleared_channel inside k))
              (subst (λ (y : ℤ). Tied bands (suc (n + k)) (limited_by k || limits_at k) (moved volume_slope v.volume) (channel_frame v.bands x a) (exact_frame bands y (exact_by k))) (fed k)
              (subst (λ (bs : List Band). Tied bands (suc (n + k)) (limited_by k || any_limits feeds_back bs x a.x2 a.sections) (moved volume_slope v.volume) (channel_frame bs x a) (exact_frame bands x (exact_by k))) (sym p.bands_are)
              (frame_tied bands (n + k) (limited_by k) v.volume a (exact_by k) p.tied as_many x)));
        }
      where
        v : Unit
        v = played_on words u k

        a : Channel
        a = channel_in channel v

        x : ℤ
        x = get_or (words k) channel (pos 0)

        shape : Shaped channels v
        shape = fed_shaped words feeds u k kept.shape

        as_many : length a.sections ≡ length bands
        as_many =
            each_get_d TenSections v.channels cleared_channel shape.sections channel (omega (arith, shape.channels, inside))
            ∙ sym shape.bands
            ∙ ap length p.bands_are

    limited_more : (k : ℕ) → limited_by k || limits_at k ≡ limited_by (suc k)
    limited_more k =
        or_assoc limited (any_of (tabulate k limits_at)) (limits_at k)
        ∙ ap (λ (b : Bool). limited || b) (sym (any_snoc (tabulate k limits_at) (limits_at k)))

    -- the unit after k of them
    played_tied : (k : ℕ) → TiedUnit (n + k) (limited_by k) (played_on words u k) (exact_by k)
    unfolding played_on exact_played
    played_tied zero = tied_from u e (omega arith) (sym (or-false limited)) t
    played_tied (suc k) =
        tied_from (played_on words u (suc k)) (exact_by (suc k)) (omega arith) (limited_more k) (played-next k (played_tied k))

    -- the claim holds of them, wherever the samples are read
    module _ (frames : ℕ) (sample_in : ℕ → ℤ) (heard : (k : ℕ) → k < frames → sample_in k ≡ sample_after words u channel cleared_channel (suc k)) where
      frames_follow : (k : ℕ) → k ≤ frames → Follows bands n limited (tabulate k sample_in) (tabulate k limits_at) (tabulate k (λ (j : ℕ). exact_by (suc j)))
      frames_follow zero h = tt
      frames_follow (suc k) h =
          follows_append bands n limited (tabulate k sample_in) (tabulate k limits_at) (tabulate k (λ (j : ℕ). exact_by (suc j))) (sample_in k ∷ []) (limits_at k ∷ []) (exact_by (suc k) ∷ [])
          (frames_follow k (omega arith))
          (subst (λ (m : ℕ). FrameFollows bands m (limited_by k || limits_at k) (sample_in k) (exact_by (suc k))) (ap (λ (m : ℕ). n + m) (sym (tabulate-length k limits_at))) last, tt)
        where
          after : TiedUnit (suc (n + k)) (limited_by k || limits_at k) (played_on words u (suc k)) (exact_by (suc k))
          after = played-next k (played_tied k)

          last : FrameFollows bands (n + k) (limited_by k || limits_at k) (sample_in k) (exact_by (suc k))
          last =
              record {
                scale = after.tied.scale;
                close =
                    λ q.
                    subst (λ (s : ℤ). Close bands (suc (n + k)) s (exact_by (suc k))) (sym (heard k (omega arith)))
                    (tied_close bands (suc (n + k)) (limited_by k || limits_at k) (played_on words u (suc k)).volume (channel_in channel (played_on words u (suc k))) (exact_by (suc k)) after.tied q);
              }

  -- ---- a call

  module _ (n : ℕ) (limited : Bool) (u : Unit) (e : Exact) (kept : Kept channels u) (t : TiedUnit n limited u e) where
    -- an order, accepted or refused
    order_tied : (side band : ℕ) (level : Setting) → TiedUnit n limited (ordered channels u side band level).unit (exact_after channels channel bands e (order side band level))
    unfolding ordered
    order_tied side band level =
        subst (λ (a : Bool). TiedUnit n limited (cond a (aimed_unit side band (target_of band level) u) u) (exact_after channels channel bands e (order side band level)))
        (ap is_accepted (sym (order_accepts channels u side band level kept.fit)))
        (go (is_accepted (order_arguments channels side band level)))
      where
        go : (a : Bool) → TiedUnit n limited (cond a (aimed_unit side band (target_of band level) u) u) (cond a (exact_aimed channels channel bands side band (target_of band level) e) e)
        go true = aimed_tied side band (target_of band level) n limited u e kept t
        go false = t

    module _ (input room : List ℕ) where
      -- 14 can't arise: the arguments decide
      abbrev accepted : Bool
      accepted = is_accepted (block_arguments channels (length input) (length room))

      arguments_decide : accepted ≡ is_accepted (block_verdict channels u (length input) (length room))
      unfolding block_verdict
      arguments_decide = simp (test_of_fit u kept.fit)

      abbrev frames : ℕ
      frames = frame_count channels input

      abbrev words : ℕ → List ℤ
      words = block_words channels input

      abbrev word : ℕ → ℤ
      word = exact_word channels channel input

      fed : (k : ℕ) → get_or (words k) channel (pos 0) ≡ word k
      fed k = block_word channels input k channel inside

      -- a block's frames, accepted or refused
      abbrev limits_then : Bool → List Bool
      limits_then a = cond a (tabulate frames (limits_in channel u words)) []

      block_tied : TiedUnit (n + length (limits_of channels channel u (block input room))) (limited || any_of (limits_of channels channel u (block input room))) (block_played channels u input (length room)).unit (exact_after channels channel bands e (block input room))
      unfolding block_played
      block_tied =
          subst (λ (a : Bool). TiedUnit (n + length (limits_then a)) (limited || any_of (limits_then a)) (cond a (played_on words u frames) u) (exact_after channels channel bands e (block input room))) arguments_decide
          (go accepted)
        where
          go : (a : Bool) → TiedUnit (n + length (limits_then a)) (limited || any_of (limits_then a)) (cond a (played_on words u frames) u) (cond a (exact_played bands word e frames) e)
          go true =
              tied_from (played_on words u frames) (exact_played bands word e frames) (ap (λ (m : ℕ). n + m) (sym (tabulate-length frames (limits_in channel u words)))) refl
              (played_tied n limited u e kept t words (block_feeds channels input) word fed frames)
          go false = tied_from u e (omega arith) (sym (or-false limited)) t

      block_follows : Follows bands n limited (samples_of channels channel u (block input room)) (limits_of channels channel u (block input room)) (exacts_of channels channel bands e (block input room))
      unfolding block_played
      block_follows =
          subst (λ (a : Bool). Follows bands n limited (cond a (tabulate frames sample_of) []) (limits_then a) (exacts_of channels channel bands e (block input room))) arguments_decide
          (go accepted refl)
        where
          sample_of : ℕ → ℤ
          sample_of k = sample_at (block_output channels u input room) (place_of channels channel k)

          go : (a : Bool) → accepted ≡ a → Follows bands n limited (cond a (tabulate frames sample_of) []) (limits_then a) (cond a (tabulate frames (λ (j : ℕ). exact_played bands word e (suc j))) [])
          go true p =
              frames_follow n limited u e kept t words (block_feeds channels input) word fed frames sample_of
              (output_sample channels u input kept.shape.channels channel cleared_channel inside room (block_accepted channels u (length input) (length room) (sym arguments_decide ∙ p)))
              frames (omega arith)
          go false p = tt

    call_tied : (call : Call) → TiedUnit (n + length (limits_of channels channel u call)) (limited || any_of (limits_of channels channel u call)) (unit_after channels u call) (exact_after channels channel bands e call)
    call_tied (order side band level) =
        tied_from (ordered channels u side band level).unit (exact_after channels channel bands e (order side band level)) (omega arith) (sym (or-false limited)) (order_tied side band level)
    call_tied (block input room) = block_tied input room

    call_follows : (call : Call) → Follows bands n limited (samples_of channels channel u call) (limits_of channels channel u call) (exacts_of channels channel bands e call)
    call_follows (order side band level) = tt
    call_follows (block input room) = block_follows input room

  -- ---- the list

  -- the claim holds of every frame of it
  pub list_follows : (calls : List Call) (n : ℕ) (limited : Bool) (u : Unit) (e : Exact) → Kept channels u → TiedUnit n limited u e → Follows bands n limited (samples channels channel u calls) (limits channels channel u calls) (exacts channels channel bands e calls)
  list_follows [] n limited u e kept t = tt
  list_follows (call ∷ calls) n limited u e kept t =
      follows_append bands n limited (samples_of channels channel u call) (limits_of channels channel u call) (exacts_of channels channel bands e call) (samples channels channel (unit_after channels u call) calls) (limits channels channel (unit_after channels u call) calls) (exacts channels channel bands (exact_after channels channel bands e call) calls)
      (call_follows n limited u e kept t call)
      (list_follows calls (n + length (limits_of channels channel u call)) (limited || any_of (limits_of channels channel u call)) (unit_after channels u call) (exact_after channels channel bands e call) (call_kept channels u call kept) (call_tied n limited u e kept t call))

  -- the flag after it says whether a section has limited
  pub list-flag : (calls : List Call) (n : ℕ) (limited : Bool) (u : Unit) (e : Exact) → Kept channels u → TiedUnit n limited u e → (channel_in channel (handed_back channels u calls)).flag ≡ pos (flag (limited || any_of (limits channels channel u calls)))
  list-flag [] n limited u e kept t = t.tied.flags ∙ ap (λ (b : Bool). pos (flag b)) (sym (or-false limited))
  list-flag (call ∷ calls) n limited u e kept t =
      list-flag calls (n + length (limits_of channels channel u call)) (limited || any_of (limits_of channels channel u call)) (unit_after channels u call) (exact_after channels channel bands e call) (call_kept channels u call kept) (call_tied n limited u e kept t call)
      ∙ ap (λ (b : Bool). pos (flag b)) joined
    where
      joined : (limited || any_of (limits_of channels channel u call)) || any_of (limits channels channel (unit_after channels u call) calls) ≡ limited || any_of (limits channels channel u (call ∷ calls))
      joined =
          or_assoc limited (any_of (limits_of channels channel u call)) (any_of (limits channels channel (unit_after channels u call) calls))
          ∙ ap (λ (b : Bool). limited || b) (sym (any_append (limits_of channels channel u call) (limits channels channel (unit_after channels u call) calls)))
