pub mod MeterLaws
