-- Which certificates check, and the first reason against one that does not.
use Rattle.std.specs.Prelude.{Bool, true, false, Option}
use Rattle.tcl_lang.specs.Program.{VersionedProgram}
use Rattle.tcl_goals.specs.declared.fact.Fact.{Fact}
use Rattle.tcl_goals.specs.Order.{InOrder}
use Rattle.tcl_kernel.specs.declared.reason.Reason.{Reason}
use Rattle.tcl_kernel.specs.declared.certificate.Cert.{Cert}
use Rattle.tcl_kernel.specs.declared.certificate.Cert.TheVariants as cert
use Rattle.tcl_kernel.specs.Earlier.{Earlier}
use Rattle.tcl_kernel.specs.Reasons.{first_of}
use Rattle.tcl_kernel.specs.Entry.{entry_reason}
use Rattle.tcl_kernel.specs.BoundsCertificate.{BoundsCheck, bounds_reason}
use Rattle.tcl_kernel.specs.EnumerationCertificate.{EnumerationChecks, enumeration_reason}
use Rattle.tcl_kernel.specs.LogCertificate.{LogCheck, log_reason}
use Rattle.tcl_kernel.specs.CofactorCertificate.{CofactorCheck, cofactor_reason}
use Rattle.tcl_kernel.specs.CasesCertificate.{CasesCheck, cases_reason}

-- the certificate shows the fact
abbrev pub CertificateChecks : VersionedProgram → Earlier → Fact → Cert → Type 0
CertificateChecks p earlier fact cert.Bounds = BoundsCheck p fact
CertificateChecks p earlier fact cert.Enumerated = EnumerationChecks p earlier.lemmas fact
CertificateChecks p earlier fact (cert.Log lines) = LogCheck p earlier.lemmas fact lines
CertificateChecks p earlier fact (cert.Cofactors lines) = CofactorCheck p earlier.lemmas fact lines
CertificateChecks p earlier fact (cert.Cases items) = CasesCheck earlier.facts fact items

-- the fact is in order, and its certificate shows it
pub record Checks (p : VersionedProgram) (earlier : Earlier) (fact : Fact) (c : Cert) : Type 0 where
  pub order : InOrder p earlier.lemmas fact
  pub certificate : CertificateChecks p earlier fact c

-- the first reason against the certificate of a fact
abbrev pub certificate_reason : VersionedProgram → Earlier → Fact → Cert → Option Reason
certificate_reason p earlier fact cert.Bounds = bounds_reason p fact
certificate_reason p earlier fact cert.Enumerated = enumeration_reason p earlier.lemmas fact
certificate_reason p earlier fact (cert.Log lines) = log_reason p earlier.lemmas fact lines
certificate_reason p earlier fact (cert.Cofactors lines) = cofactor_reason p earlier.lemmas fact lines
certificate_reason p earlier fact (cert.Cases items) = cases_reason earlier.facts fact items

-- the first reason against the fact with its certificate: the reasons of the fact by itself come first
unfoldable pub first_reason : VersionedProgram → Earlier → Fact → Cert → Option Reason
first_reason p earlier fact c = first_of (entry_reason p earlier.lemmas fact) (certificate_reason p earlier fact c)

-- a certificate that names earlier facts does not stand alone
abbrev pub stands_alone : Cert → Bool
stands_alone (cert.Cases items) = false
stands_alone _ = true
