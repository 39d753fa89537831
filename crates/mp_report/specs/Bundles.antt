-- What is found at a bundle, as a set.
use Rattle.mp_report.specs.Names.{FindingCode, DataWhileBusy, Setup, RequestWhileBusy, AckWhileIdle, FindingSet, no_findings, with_code_if, BundleRecord, Circuit, is_found_at_bundle, ℕ, Some}

-- a set, with a code too where it is found at the bundle
abbrev pub with_found : Circuit → BundleRecord → ℕ → FindingCode → FindingSet → FindingSet
with_found n b t code set = with_code_if code (is_found_at_bundle n (Some b) t code) set

-- the codes that are found at the bundle
abbrev pub bundle_set : Circuit → BundleRecord → ℕ → FindingSet
bundle_set n b t = with_found n b t AckWhileIdle (with_found n b t RequestWhileBusy (with_found n b t Setup (with_found n b t DataWhileBusy no_findings)))
