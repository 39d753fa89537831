-- A netlist is still one after something is added, or a slot is written over.
use Rattle.std.proofs.Common.{◌≡◌, ℕ, ◌<◌, Bool, true, [], ◌∷◌, length, Option, Some, None, is_some, is_none, ◌⊎◌, inl, inr, refl, sym, ap, subst, ◌∙◌, arith}
use Rattle.std.specs.Bool.{IsTrue}
use Rattle.std.specs.Option.{IfSome}
use Rattle.std.proofs.Math.ListN.{length-set}
use Rattle.std.proofs.lemmas.List.{get_or_append_left, length_push}
use Rattle.std.specs.Prelude.{slice_index_or}
use Rattle.mp_modules.proofs.KindLemmas.{some_input}
use Rattle.mp_modules.specs.Kinds.{width_from, input_width, output_width, are_params}
use Rattle.mp_records.specs.declared.ids.WireId.{WireId}
use Rattle.mp_records.specs.declared.wire_record.WireRecord.{WireRecord}
use Rattle.mp_records.specs.declared.module_record.ModuleRecord.{ModuleRecord}
use Rattle.mp_records.specs.declared.bundle_record.BundleRecord.{BundleRecord}
use Rattle.mp_records.specs.Inputs.{no_input}
use Rattle.mp_records.specs.Outputs.{output_at}
use Rattle.mp_records.specs.Names.{is_name}
use Rattle.mp_records.specs.NamedWires.{module_names, bundle_names}
use Rattle.mp_netlist.specs.Limits.{wire_limit, module_limit, bundle_limit}
use Rattle.mp_netlist.specs.Circuit.{Circuit, IsCircuit, IsWire, IsModule, IsBundle, HasWidth, Drives, wire_at, module_at, bundle_at, width_of, module_width, stimulus_in, stimulus_at, wire_named, module_named, bundle_named}
use Rattle.mp_netlist.specs.Drivers.{driver, is_nothing}
use Rattle.mp_netlist.specs.Uses.{is_used}
use Rattle.mp_netlist.specs.Slots.{slot_at}
use Rattle.mp_netlist.specs.Edits.{with_wire_record, with_new_module, with_new_bundle, with_wire, with_module, with_bundle}
use Rattle.mp_netlist.proofs.TableLemmas.{PushedAt, pushed_at, RewrittenAt, rewritten_at, slot_within, IsNamesake}
use Rattle.mp_netlist.proofs.NameLemmas.{wire_name, module_name, HasNames-add_wire, HasNames-rewrite_wire, HasNames-add_module, HasNames-rewrite_module, HasNames-add_bundle, HasNames-rewrite_bundle}
use Rattle.mp_netlist.proofs.UseLemmas.{input_is_named, output_is_named, used_by_module, used_by_bundle, request_is_named, acknowledge_is_named, payload_is_named}
use Rattle.mp_netlist.proofs.DriverLemmas.{undriven_is_free}

-- each wire of the first that passes the test stands in the second with its width
pub record KeepsWidths (test : ℕ → Bool) (n m : Circuit) : Type 0 where
  pub keeps : (w : ℕ) → test w ≡ true → is_some (wire_at n w) ≡ true → (is_some (wire_at m w) ≡ true) × (width_of (wire_at m w) ≡ width_of (wire_at n w))

HasWidth-keep : (test : ℕ → Bool) (n m : Circuit) → KeepsWidths test n m → (w width : ℕ) → test w ≡ true → HasWidth n w width → HasWidth m w width
HasWidth-keep test n m same w width passes has = let kept = same.keeps w passes has.0 in (kept.0, kept.1 ∙ has.1)

-- where the wires stay, each keeps its width
KeepsWidths-same : (test : ℕ → Bool) (n m : Circuit) → n.wires ≡ m.wires → KeepsWidths test n m
KeepsWidths-same test n m same = record {
  keeps = λ w passes is. (ap (λ wires. is_some (slot_at wires w)) (sym same) ∙ is, ap (λ wires. width_of (slot_at wires w)) (sym same));
}

-- where the modules stay, no port drives another wire
Drives-same : (n m : Circuit) → n.modules ≡ m.modules → (k p w : ℕ) → Drives m k p w → Drives n k p w
Drives-same n m same k p w drives = record { part = drives.part; stands = ap (λ modules. slot_at modules k) same ∙ drives.stands; output = drives.output }

-- the wires that a module names
abbrev of_module : ModuleRecord → ℕ → Bool
of_module r w = module_names w r

-- the wires that a bundle names
abbrev of_bundle : BundleRecord → ℕ → Bool
of_bundle r w = bundle_names w r

module_width-keep : (n m : Circuit) (r : ModuleRecord) → KeepsWidths (of_module r) n m → IsModule n r → module_width m r ≡ module_width n r
module_width-keep n m r same ok =
    let some : 0 < length r.inputs = omega (arith, ok.inputs, some_input r.kind) in
    let first = ok.reads 0 no_input some in
    ap (width_from r.kind) (same.keeps _ (input_is_named r 0 no_input some) first.0).1

drives-keep : (n m : Circuit) (r : ModuleRecord) (p width : ℕ) → KeepsWidths (of_module r) n m → IfSome (output_at r p).wire (λ w. HasWidth n w.0 width)
    → IfSome (output_at r p).wire (λ w. HasWidth m w.0 width)
drives-keep n m r p width same has = by (output_at r p).wire refl has
  where
    by : (wire : Option WireId) → (output_at r p).wire ≡ wire → IfSome wire (λ w. HasWidth n w.0 width) → IfSome wire (λ w. HasWidth m w.0 width)
    by None at has = tt
    by (Some w) at has = HasWidth-keep (of_module r) n m same w.0 width (output_is_named r p w at) has

pub IsModule-keep : (n m : Circuit) (r : ModuleRecord) → KeepsWidths (of_module r) n m → IsModule n r → IsModule m r
IsModule-keep n m r same ok =
    let width = sym (module_width-keep n m r same ok) in
    record {
      inputs = ok.inputs;
      outputs = ok.outputs;
      params = subst (λ k. IsTrue (are_params r.kind k r.params)) width ok.params;
      input_delays = ok.input_delays;
      delays = ok.delays;
      reads = λ p i within.
          subst (λ k. HasWidth m (slice_index_or r.inputs p i).wire.0 (input_width r.kind k p)) width
          (HasWidth-keep (of_module r) n m same _ _ (input_is_named r p i within) (ok.reads p i within));
      drives = λ p.
          subst (λ k. IfSome (output_at r p).wire (λ w. HasWidth m w.0 (output_width r.kind k p))) width
          (drives-keep n m r p _ same (ok.drives p));
    }

pub IsBundle-keep : (n m : Circuit) (r : BundleRecord) → KeepsWidths (of_bundle r) n m → IsBundle n r → IsBundle m r
IsBundle-keep n m r same ok = record {
  request = HasWidth-keep (of_bundle r) n m same _ _ (request_is_named r) ok.request;
  acknowledge = HasWidth-keep (of_bundle r) n m same _ _ (acknowledge_is_named r) ok.acknowledge;
  payload = (same.keeps _ (payload_is_named r) ok.payload).0;
  setup = ok.setup;
}

-- what drives a wire at the outputs of a module, in the place of what has this number
pub record DrivesAlone (n : Circuit) (id : ℕ) (r : ModuleRecord) : Type 0 where
  pub distinct : (p q w : ℕ) → (output_at r p).wire ≡ Some (record { 0 = w }) → (output_at r q).wire ≡ Some (record { 0 = w }) → p ≡ q
  pub alone : (p w k q : ℕ) → (output_at r p).wire ≡ Some (record { 0 = w }) → Drives n k q w → k ≡ id
  pub unset : (p w : ℕ) → (output_at r p).wire ≡ Some (record { 0 = w }) → stimulus_at n w ≡ None

module _ (n : Circuit) (ok : IsCircuit n) where
  -- a module with the outputs of the one that stands there
  pub DrivesAlone-same : (id : ℕ) (r s : ModuleRecord) → module_at n id ≡ Some r → ((p : ℕ) → (output_at s p).wire ≡ (output_at r p).wire) → DrivesAlone n id s
  DrivesAlone-same id r s at same = record {
    distinct = λ p q w a b. (ok.one_port id p id q w (old p w a) (old q w b)).1;
    alone = λ p w k q a other. (ok.one_port k q id p w other (old p w a)).0;
    unset = λ p w a. ok.port_or_stimulus id p w (old p w a);
  }
    where
      old : (p w : ℕ) → (output_at s p).wire ≡ Some (record { 0 = w }) → Drives n id p w
      old p w a = record { part = r; stands = at; output = sym (same p) ∙ a }

  -- one more wire
  module _ (r : WireRecord) (is_wire : IsWire n.horizon r) (named : is_name r.name ≡ true) (unnamed : is_none (wire_named n r.name) ≡ true)
      (free : r.stimulus ≡ None) (room : length n.wires < wire_limit n.format) where
    abbrev more : Circuit
    more = with_wire_record n r

    more_keeps : (test : ℕ → Bool) → KeepsWidths test n more
    more_keeps test = record {
      keeps = λ w passes is.
          let here = get_or_append_left n.wires (Some r ∷ []) None w (slot_within n.wires w is) in
          (ap is_some here ∙ is, ap width_of here);
    }

    more_wires : (w : ℕ) (s : WireRecord) → PushedAt n.wires (Some r) w → wire_at more w ≡ Some s → IsWire n.horizon s
    more_wires w s (inl old) at = ok.wires_ok w s (sym old.1 ∙ at)
    more_wires w s (inr (inl new)) at = let same : r ≡ s = (let both = sym new.1 ∙ at in cc) in subst (IsWire n.horizon) same is_wire
    more_wires w s (inr (inr none)) at = let no = sym none.1 ∙ at in cc

    more_free : (m p w : ℕ) → Drives n m p w → PushedAt n.wires (Some r) w → stimulus_at more w ≡ None
    more_free m p w drives (inl old) = ap stimulus_in old.1 ∙ ok.port_or_stimulus m p w drives
    more_free m p w drives (inr (inl new)) = ap stimulus_in new.1 ∙ free
    more_free m p w drives (inr (inr none)) = ap stimulus_in none.1

    pub IsCircuit-add_wire : IsCircuit more
    IsCircuit-add_wire = record {
      horizon_low = ok.horizon_low;
      horizon_high = ok.horizon_high;
      wires_ok = λ w s at. more_wires w s (pushed_at n.wires (Some r) w) at;
      modules_ok = λ m s at. IsModule-keep n more s (more_keeps (of_module s)) (ok.modules_ok m s at);
      bundles_ok = λ b s at. IsBundle-keep n more s (more_keeps (of_bundle s)) (ok.bundles_ok b s at);
      names = HasNames-add_wire n ok.names r named unnamed;
      one_port = λ m p k q w a b. ok.one_port m p k q w (Drives-same n more refl m p w a) (Drives-same n more refl k q w b);
      port_or_stimulus = λ m p w drives. more_free m p w (Drives-same n more refl m p w drives) (pushed_at n.wires (Some r) w);
      wires_few = omega (arith, length_push n.wires (Some r));
      modules_few = ok.modules_few;
      bundles_few = ok.bundles_few;
    }

  -- something else in a wire's slot, of the same name, and of the same width where the wire is used
  module _ (id : ℕ) (slot : Option WireRecord) (within : id < length n.wires) (is_wire : (s : WireRecord) → slot ≡ Some s → IsWire n.horizon s)
      (namesake : (s : WireRecord) → slot ≡ Some s → IsNamesake wire_name (wire_at n id) s)
      (same_width : is_used n id ≡ true → (is_some slot ≡ true) × (width_of slot ≡ width_of (wire_at n id)))
      (free : (m p : ℕ) → Drives n m p id → stimulus_in slot ≡ None) where
    abbrev other : Circuit
    other = with_wire n id slot

    now : (w : ℕ) → RewrittenAt n.wires id slot w
    now = rewritten_at n.wires id slot within

    kept_at : (w : ℕ) → is_used n w ≡ true → RewrittenAt n.wires id slot w → is_some (wire_at n w) ≡ true → (is_some (wire_at other w) ≡ true) × (width_of (wire_at other w) ≡ width_of (wire_at n w))
    kept_at w used (inl new) is =
        let kept = same_width (ap (is_used n) (sym new.0) ∙ used) in
        (ap is_some new.1 ∙ kept.0, ap width_of new.1 ∙ kept.1 ∙ ap (λ k. width_of (wire_at n k)) (sym new.0))
    kept_at w used (inr old) is = (ap is_some old.1 ∙ is, ap width_of old.1)

    other_wires : (w : ℕ) (s : WireRecord) → RewrittenAt n.wires id slot w → wire_at other w ≡ Some s → IsWire n.horizon s
    other_wires w s (inl new) at = is_wire s (sym new.1 ∙ at)
    other_wires w s (inr old) at = ok.wires_ok w s (sym old.1 ∙ at)

    other_free : (m p w : ℕ) → Drives n m p w → RewrittenAt n.wires id slot w → stimulus_at other w ≡ None
    other_free m p w drives (inl new) = ap stimulus_in new.1 ∙ free m p (subst (Drives n m p) new.0 drives)
    other_free m p w drives (inr old) = ap stimulus_in old.1 ∙ ok.port_or_stimulus m p w drives

    pub IsCircuit-rewrite_wire : IsCircuit other
    IsCircuit-rewrite_wire = record {
      horizon_low = ok.horizon_low;
      horizon_high = ok.horizon_high;
      wires_ok = λ w s at. other_wires w s (now w) at;
      modules_ok = λ m s at. IsModule-keep n other s (record { keeps = λ w named is. kept_at w (used_by_module n m s w at named) (now w) is }) (ok.modules_ok m s at);
      bundles_ok = λ b s at. IsBundle-keep n other s (record { keeps = λ w named is. kept_at w (used_by_bundle n b s w at named) (now w) is }) (ok.bundles_ok b s at);
      names = HasNames-rewrite_wire n ok.names id slot within namesake;
      one_port = λ m p k q w a b. ok.one_port m p k q w (Drives-same n other refl m p w a) (Drives-same n other refl k q w b);
      port_or_stimulus = λ m p w drives. other_free m p w (Drives-same n other refl m p w drives) (now w);
      wires_few = omega (arith, length-set n.wires id slot, ok.wires_few);
      modules_few = ok.modules_few;
      bundles_few = ok.bundles_few;
    }

  -- one more module, whose outputs are at different wires that nothing drives
  module _ (r : ModuleRecord) (is_module : IsModule n r) (named : is_name r.name ≡ true) (unnamed : is_none (module_named n r.name) ≡ true)
      (distinct : (p q w : ℕ) → (output_at r p).wire ≡ Some (record { 0 = w }) → (output_at r q).wire ≡ Some (record { 0 = w }) → p ≡ q)
      (undriven : (p w : ℕ) → (output_at r p).wire ≡ Some (record { 0 = w }) → is_nothing (driver n w) ≡ true) (room : length n.modules < module_limit n.format) where
    abbrev grown : Circuit
    grown = with_new_module n r

    grown_modules : (m : ℕ) (s : ModuleRecord) → PushedAt n.modules (Some r) m → module_at grown m ≡ Some s → IsModule n s
    grown_modules m s (inl old) at = ok.modules_ok m s (sym old.1 ∙ at)
    grown_modules m s (inr (inl new)) at = let same : r ≡ s = (let both = sym new.1 ∙ at in cc) in subst (IsModule n) same is_module
    grown_modules m s (inr (inr none)) at = let no = sym none.1 ∙ at in cc

    -- a port of the new netlist is an old one, or one of the new module
    abbrev DrivesNow : ℕ → ℕ → ℕ → Type 0
    DrivesNow m p w = Drives n m p w ⊎ ((m ≡ length n.modules) × ((output_at r p).wire ≡ Some (record { 0 = w })))

    drives_now : (m p w : ℕ) → Drives grown m p w → PushedAt n.modules (Some r) m → DrivesNow m p w
    drives_now m p w drives (inl old) = inl (record { part = drives.part; stands = sym old.1 ∙ drives.stands; output = drives.output })
    drives_now m p w drives (inr (inl new)) =
        let same : drives.part ≡ r = (let both = sym new.1 ∙ drives.stands in cc) in
        inr (new.0, subst (λ (s : ModuleRecord). (output_at s p).wire ≡ Some (record { 0 = w })) same drives.output)
    drives_now m p w drives (inr (inr none)) = let no = sym none.1 ∙ drives.stands in cc

    grown_drives : (m p w : ℕ) → Drives grown m p w → DrivesNow m p w
    grown_drives m p w drives = drives_now m p w drives (pushed_at n.modules (Some r) m)

    grown_one_port : (m p k q w : ℕ) → DrivesNow m p w → DrivesNow k q w → (m ≡ k) × (p ≡ q)
    grown_one_port m p k q w (inl a) (inl b) = ok.one_port m p k q w a b
    grown_one_port m p k q w (inl a) (inr b) = absurd ((undriven_is_free n ok w (undriven q w b.1)).0 m p a)
    grown_one_port m p k q w (inr a) (inl b) = absurd ((undriven_is_free n ok w (undriven p w a.1)).0 k q b)
    grown_one_port m p k q w (inr a) (inr b) = (a.0 ∙ sym b.0, distinct p q w a.1 b.1)

    grown_free : (m p w : ℕ) → DrivesNow m p w → stimulus_at n w ≡ None
    grown_free m p w (inl a) = ok.port_or_stimulus m p w a
    grown_free m p w (inr a) = (undriven_is_free n ok w (undriven p w a.1)).1

    pub IsCircuit-add_module : IsCircuit grown
    IsCircuit-add_module = record {
      horizon_low = ok.horizon_low;
      horizon_high = ok.horizon_high;
      wires_ok = λ w s at. ok.wires_ok w s at;
      modules_ok = λ m s at. IsModule-keep n grown s (KeepsWidths-same (of_module s) n grown refl) (grown_modules m s (pushed_at n.modules (Some r) m) at);
      bundles_ok = λ b s at. IsBundle-keep n grown s (KeepsWidths-same (of_bundle s) n grown refl) (ok.bundles_ok b s at);
      names = HasNames-add_module n ok.names r named unnamed;
      one_port = λ m p k q w a b. grown_one_port m p k q w (grown_drives m p w a) (grown_drives k q w b);
      port_or_stimulus = λ m p w drives. grown_free m p w (grown_drives m p w drives);
      wires_few = ok.wires_few;
      modules_few = omega (arith, length_push n.modules (Some r));
      bundles_few = ok.bundles_few;
    }

  -- something else in a module's slot, of the same name, whose outputs are at different wires that nothing else drives
  module _ (id : ℕ) (slot : Option ModuleRecord) (within : id < length n.modules) (is_module : (s : ModuleRecord) → slot ≡ Some s → IsModule n s)
      (namesake : (s : ModuleRecord) → slot ≡ Some s → IsNamesake module_name (module_at n id) s)
      (drives_alone : (s : ModuleRecord) → slot ≡ Some s → DrivesAlone n id s) where
    abbrev changed : Circuit
    changed = with_module n id slot

    changed_modules : (m : ℕ) (s : ModuleRecord) → RewrittenAt n.modules id slot m → module_at changed m ≡ Some s → IsModule n s
    changed_modules m s (inl new) at = is_module s (sym new.1 ∙ at)
    changed_modules m s (inr old) at = ok.modules_ok m s (sym old.1 ∙ at)

    -- a port of the new netlist is an old one, or one of what is in the slot now
    abbrev ChangedDrives : ℕ → ℕ → ℕ → Type 0
    ChangedDrives m p w =
        ((m ≡ id → ⊥) × Drives n m p w)
        ⊎ ((m ≡ id) × ((s : ModuleRecord) × (slot ≡ Some s) × ((output_at s p).wire ≡ Some (record { 0 = w }))))

    changed_drives_at : (m p w : ℕ) → Drives changed m p w → RewrittenAt n.modules id slot m → ChangedDrives m p w
    changed_drives_at m p w drives (inl new) = inr (new.0, (drives.part, sym new.1 ∙ drives.stands, drives.output))
    changed_drives_at m p w drives (inr old) = inl (old.0, record { part = drives.part; stands = sym old.1 ∙ drives.stands; output = drives.output })

    changed_drives : (m p w : ℕ) → Drives changed m p w → ChangedDrives m p w
    changed_drives m p w drives = changed_drives_at m p w drives (rewritten_at n.modules id slot within m)

    changed_one_port : (m p k q w : ℕ) → ChangedDrives m p w → ChangedDrives k q w → (m ≡ k) × (p ≡ q)
    changed_one_port m p k q w (inl a) (inl b) = ok.one_port m p k q w a.1 b.1
    changed_one_port m p k q w (inl a) (inr b) = absurd (a.0 ((drives_alone b.1.0 b.1.1).alone q w m p b.1.2 a.1))
    changed_one_port m p k q w (inr a) (inl b) = absurd (b.0 ((drives_alone a.1.0 a.1.1).alone p w k q a.1.2 b.1))
    changed_one_port m p k q w (inr a) (inr b) =
        let same : b.1.0 ≡ a.1.0 = (let both = sym b.1.1 ∙ a.1.1 in cc) in
        let other = subst (λ (s : ModuleRecord). (output_at s q).wire ≡ Some (record { 0 = w })) same b.1.2 in
        (a.0 ∙ sym b.0, (drives_alone a.1.0 a.1.1).distinct p q w a.1.2 other)

    changed_free : (m p w : ℕ) → ChangedDrives m p w → stimulus_at n w ≡ None
    changed_free m p w (inl a) = ok.port_or_stimulus m p w a.1
    changed_free m p w (inr a) = (drives_alone a.1.0 a.1.1).unset p w a.1.2

    pub IsCircuit-rewrite_module : IsCircuit changed
    IsCircuit-rewrite_module = record {
      horizon_low = ok.horizon_low;
      horizon_high = ok.horizon_high;
      wires_ok = λ w s at. ok.wires_ok w s at;
      modules_ok = λ m s at. IsModule-keep n changed s (KeepsWidths-same (of_module s) n changed refl) (changed_modules m s (rewritten_at n.modules id slot within m) at);
      bundles_ok = λ b s at. IsBundle-keep n changed s (KeepsWidths-same (of_bundle s) n changed refl) (ok.bundles_ok b s at);
      names = HasNames-rewrite_module n ok.names id slot within namesake;
      one_port = λ m p k q w a b. changed_one_port m p k q w (changed_drives m p w a) (changed_drives k q w b);
      port_or_stimulus = λ m p w drives. changed_free m p w (changed_drives m p w drives);
      wires_few = ok.wires_few;
      modules_few = omega (arith, length-set n.modules id slot, ok.modules_few);
      bundles_few = ok.bundles_few;
    }

  -- one more bundle
  module _ (r : BundleRecord) (is_bundle : IsBundle n r) (named : is_name r.name ≡ true) (unnamed : is_none (bundle_named n r.name) ≡ true) (room : length n.bundles < bundle_limit n.format) where
    abbrev bundled : Circuit
    bundled = with_new_bundle n r

    bundled_bundles : (b : ℕ) (s : BundleRecord) → PushedAt n.bundles (Some r) b → bundle_at bundled b ≡ Some s → IsBundle n s
    bundled_bundles b s (inl old) at = ok.bundles_ok b s (sym old.1 ∙ at)
    bundled_bundles b s (inr (inl new)) at = let same : r ≡ s = (let both = sym new.1 ∙ at in cc) in subst (IsBundle n) same is_bundle
    bundled_bundles b s (inr (inr none)) at = let no = sym none.1 ∙ at in cc

    pub IsCircuit-add_bundle : IsCircuit bundled
    IsCircuit-add_bundle = record {
      horizon_low = ok.horizon_low;
      horizon_high = ok.horizon_high;
      wires_ok = λ w s at. ok.wires_ok w s at;
      modules_ok = λ m s at. IsModule-keep n bundled s (KeepsWidths-same (of_module s) n bundled refl) (ok.modules_ok m s at);
      bundles_ok = λ b s at. IsBundle-keep n bundled s (KeepsWidths-same (of_bundle s) n bundled refl) (bundled_bundles b s (pushed_at n.bundles (Some r) b) at);
      names = HasNames-add_bundle n ok.names r named unnamed;
      one_port = λ m p k q w a b. ok.one_port m p k q w (Drives-same n bundled refl m p w a) (Drives-same n bundled refl k q w b);
      port_or_stimulus = λ m p w drives. ok.port_or_stimulus m p w (Drives-same n bundled refl m p w drives);
      wires_few = ok.wires_few;
      modules_few = ok.modules_few;
      bundles_few = omega (arith, length_push n.bundles (Some r));
    }

  -- a bundle goes
  module _ (id : ℕ) (within : id < length n.bundles) where
    abbrev unbundled : Circuit
    unbundled = with_bundle n id None

    unbundled_bundles : (b : ℕ) (s : BundleRecord) → RewrittenAt n.bundles id None b → bundle_at unbundled b ≡ Some s → IsBundle n s
    unbundled_bundles b s (inl new) at = let no = sym new.1 ∙ at in cc
    unbundled_bundles b s (inr old) at = ok.bundles_ok b s (sym old.1 ∙ at)

    pub IsCircuit-remove_bundle : IsCircuit unbundled
    IsCircuit-remove_bundle = record {
      horizon_low = ok.horizon_low;
      horizon_high = ok.horizon_high;
      wires_ok = λ w s at. ok.wires_ok w s at;
      modules_ok = λ m s at. IsModule-keep n unbundled s (KeepsWidths-same (of_module s) n unbundled refl) (ok.modules_ok m s at);
      bundles_ok = λ b s at. IsBundle-keep n unbundled s (KeepsWidths-same (of_bundle s) n unbundled refl) (unbundled_bundles b s (rewritten_at n.bundles id None within b) at);
      names = HasNames-rewrite_bundle n ok.names id None within (λ s is. (cc));
      one_port = λ m p k q w a b. ok.one_port m p k q w (Drives-same n unbundled refl m p w a) (Drives-same n unbundled refl k q w b);
      port_or_stimulus = λ m p w drives. ok.port_or_stimulus m p w (Drives-same n unbundled refl m p w drives);
      wires_few = ok.wires_few;
      modules_few = ok.modules_few;
      bundles_few = omega (arith, length-set n.bundles id None, ok.bundles_few);
    }
